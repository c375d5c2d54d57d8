-- Steps that leave texts and records, and steps one after the other.
use Rattle.std.proofs.Common.{◌≡◌, ℕ, ◌≤◌, ◌<◌, Bool, List, [], ◌∷◌, length, refl, ap, sym, ◌∙◌, arith, ◌⊎◌, inl, inr}
use Rattle.std.specs.Prelude.{if◌then◌else◌, ◌==◌, slice_get, slice_set, Option, Some, None, unwrap_or}
use Rattle.std.proofs.lemmas.Bool.{cases_eq}
use Rattle.std.proofs.lemmas.Option.{same_Some, none-some}
use Rattle.text_model.specs.Marks.{Marks}
use Rattle.text_model.specs.Commit.{Site}
use Rattle.text_model.proofs.Cases.{by_test}
use Rattle.machine_laws.specs.Fits.{MarksFit}
use Rattle.machine_laws.specs.Brackets.{shapes}
use Rattle.machine_laws.proofs.OneBuffer.{passes_like}
use Rattle.editor_model.specs.Editor.{Editor, Live, live, live_from, change_site, killed, scratch, with_buffer}
use Rattle.machine_laws.proofs.GoodEditor.{GoodEditor, Advances, Steady, Passes}
use Rattle.machine_laws.proofs.Advancing.{advances_self, marks_only, size_of, live_below, live_within, live_set_same, live_set_other, killed_advances}

-- a step that leaves the text and the records of each buffer
pub record Settles (e new : Editor) : Type 0 where
  pub good : GoodEditor new
  pub longer : length e.buffers ≤ length new.buffers
  pub dead : (id : ℕ) → id < length e.buffers → live e id ≡ None → live new id ≡ None
  pub same : (id : ℕ) (l m : Live) → live e id ≡ Some l → live new id ≡ Some m → (m.buffer.text ≡ l.buffer.text) × (m.buffer.undo ≡ l.buffer.undo)

pub settles_self : (e : Editor) → GoodEditor e → Settles e e
settles_self e g = record { good = g; longer = omega arith; dead = λ id h k. k; same = λ id l m h k. let q : l ≡ m = same_Some l m (sym h ∙ k) in (ap (λ x. x.buffer.text) (sym q), ap (λ x. x.buffer.undo) (sym q)) }

-- a step, and one behind it that leaves texts and records
pub advances_settles : (e mid new : Editor) → Advances e mid → Settles mid new → Advances e new
advances_settles e mid new a s = record {
  good = s.good;
  longer = let x : length e.buffers ≤ length mid.buffers = a.longer in let y : length mid.buffers ≤ length new.buffers = s.longer in omega arith;
  dead = λ id h k. let x : length e.buffers ≤ length mid.buffers = a.longer in s.dead id (omega arith) (a.dead id h k);
  passes = λ id l m h k. passes id l m h k (live mid id) refl;
}
  where
    passes : (id : ℕ) (l m : Live) → live e id ≡ Some l → live new id ≡ Some m → (o : Option Live) → live mid id ≡ o → Passes l.buffer m.buffer
    passes id l m h k None q = let x : length e.buffers ≤ length mid.buffers = a.longer in let y : id < length e.buffers = live_below e id l h in absurd (none-some m (sym (s.dead id (omega arith) q) ∙ k))
    passes id l m h k (Some n) q = let t : (m.buffer.text ≡ n.buffer.text) × (m.buffer.undo ≡ n.buffer.undo) = s.same id n m q k in passes_like l.buffer n.buffer m.buffer (a.passes id l n h q) t.0 t.1

pub settles_then : (e mid new : Editor) → Settles e mid → Settles mid new → Settles e new
settles_then e mid new a s = record {
  good = s.good;
  longer = let x : length e.buffers ≤ length mid.buffers = a.longer in let y : length mid.buffers ≤ length new.buffers = s.longer in omega arith;
  dead = λ id h k. let x : length e.buffers ≤ length mid.buffers = a.longer in s.dead id (omega arith) (a.dead id h k);
  same = λ id l m h k. same id l m h k (live mid id) refl;
}
  where
    same : (id : ℕ) (l m : Live) → live e id ≡ Some l → live new id ≡ Some m → (o : Option Live) → live mid id ≡ o → (m.buffer.text ≡ l.buffer.text) × (m.buffer.undo ≡ l.buffer.undo)
    same id l m h k None q = let x : length e.buffers ≤ length mid.buffers = a.longer in let y : id < length e.buffers = live_below e id l h in absurd (none-some m (sym (s.dead id (omega arith) q) ∙ k))
    same id l m h k (Some n) q =
        let t : (m.buffer.text ≡ n.buffer.text) × (m.buffer.undo ≡ n.buffer.undo) = s.same id n m q k in
        let u : (n.buffer.text ≡ l.buffer.text) × (n.buffer.undo ≡ l.buffer.undo) = a.same id l n h q in
        (t.0 ∙ u.0, t.1 ∙ u.1)

pub settles_advances : (e new : Editor) → GoodEditor e → Settles e new → Advances e new
settles_advances e new g s = advances_settles e e new (advances_self e g) s

-- where the list of buffers is as it was
pub marks_settle : (e new : Editor) → GoodEditor e → new.buffers ≡ e.buffers → ((id : ℕ) → MarksFit id (size_of e id) e.marks → MarksFit id (size_of e id) new.marks) → Settles e new
marks_settle e new g q f =
    let a : Advances e new = marks_only e new g q f in
    record {
      good = a.good;
      longer = a.longer;
      dead = a.dead;
      same = λ id l m h k. let r : l ≡ m = same_Some l m (sym h ∙ sym (ap (λ bs. unwrap_or (slice_get bs id) None) q) ∙ k) in (ap (λ x. x.buffer.text) (sym r), ap (λ x. x.buffer.undo) (sym r));
    }

abbrev Lives : Editor → ℕ → Live → Type 0
Lives e id l = live e id ≡ Some l

-- one buffer changed, but not its text and records
pub site_settles : (id : ℕ) (f : Site → Site) (e : Editor) → Advances e (change_site id f e) →
    ((l : Live) → live e id ≡ Some l → ((f (record { buffer = l.buffer; marks = e.marks })).buffer.text ≡ l.buffer.text) × ((f (record { buffer = l.buffer; marks = e.marks })).buffer.undo ≡ l.buffer.undo)) → Settles e (change_site id f e)
site_settles id f e a h = record { good = a.good; longer = a.longer; dead = a.dead; same = λ j l m x y. go (live e id) refl j l m x y }
  where
    go : (o : Option Live) → live e id ≡ o → (j : ℕ) (l m : Live) → live e j ≡ Some l → Lives (elim o [
      | None ↦ e
      | Some n ↦
          let site : Site = f (record { buffer = n.buffer; marks = e.marks }) in
          record e { buffers = slice_set e.buffers id (Some (record n { buffer = site.buffer })); marks = site.marks }
    ]) j m → (m.buffer.text ≡ l.buffer.text) × (m.buffer.undo ≡ l.buffer.undo)
    go None q j l m x y = let r : l ≡ m = same_Some l m (sym x ∙ y) in (ap (λ z. z.buffer.text) (sym r), ap (λ z. z.buffer.undo) (sym r))
    go (Some n) q j l m x y = by_id (cases_eq j id)
      where
        site : Site
        site = f (record { buffer = n.buffer; marks = e.marks })

        new : Editor
        new = record e { buffers = slice_set e.buffers id (Some (record n { buffer = site.buffer })); marks = site.marks }

        by_id : (j ≡ id) ⊎ (j ≡ id → ⊥) → (m.buffer.text ≡ l.buffer.text) × (m.buffer.undo ≡ l.buffer.undo)
        by_id (inl r) =
            let p : n ≡ l = same_Some n l (sym q ∙ ap (live e) (sym r) ∙ x) in
            let s : record n { buffer = site.buffer } ≡ m = same_Some _ m (sym (live_set_same e new id (Some (record n { buffer = site.buffer })) (Some n) refl (live_within e id n q)) ∙ ap (live new) (sym r) ∙ y) in
            let t : (site.buffer.text ≡ n.buffer.text) × (site.buffer.undo ≡ n.buffer.undo) = h n q in
            (ap (λ z. z.buffer.text) (sym s) ∙ t.0 ∙ ap (λ z. z.buffer.text) p, ap (λ z. z.buffer.undo) (sym s) ∙ t.1 ∙ ap (λ z. z.buffer.undo) p)
        by_id (inr d) =
            let r : l ≡ m = same_Some l m (sym x ∙ sym (live_set_other e new id j (Some (record n { buffer = site.buffer })) refl d) ∙ y) in
            (ap (λ z. z.buffer.text) (sym r), ap (λ z. z.buffer.undo) (sym r))

-- a buffer killed
pub killed_steady : (id : ℕ) (e : Editor) → GoodEditor e → Steady e (killed id e)
killed_steady id e g = record { advances = killed_advances id e g; same_shapes = go (live_from 0 gone.buffers) (e.current == id) }
  where
    gone : Editor
    gone = record e { buffers = slice_set e.buffers id None; marks = Rattle.text_model.specs.Marks.leave_buffer id e.marks }

    go : (ids : List ℕ) (v : Bool) → let new : Editor = elim ids [ [] ↦ record (with_buffer scratch gone) { current = length gone.buffers } | n ∷ more ↦ if v then record gone { current = n } else gone ] in shapes new.marks.saved ≡ shapes e.marks.saved
    go [] v = refl
    go (n ∷ more) v = by_test (λ x. shapes x.marks.saved ≡ shapes e.marks.saved) v (record gone { current = n }) gone (λ q. refl) (λ q. refl)
