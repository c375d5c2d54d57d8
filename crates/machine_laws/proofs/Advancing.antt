-- What the functions on the editor keep.
use Rattle.std.proofs.Common.{◌≡◌, ℕ, zero, suc, ◌+◌, ◌≤◌, ◌<◌, Bool, true, false, List, [], ◌∷◌, length, map, refl, ap, sym, subst, ◌∙◌, arith, ◌⊎◌, inl, inr}
use Rattle.std.specs.Prelude.{if◌then◌else◌, ◌==◌, nat_lt, slice_get, slice_set, Option, Some, None, unwrap_or}
use Rattle.std.proofs.lemmas.Option.{slice_get_past, slice_get_within, same_Some, none-some}
use Rattle.std.proofs.lemmas.Bool.{ltb-true, ltb-false, cases_order, cases_eq}
use Rattle.std.proofs.lemmas.List.{length-append}
use Rattle.text_model.specs.Marks.{Marks, Marker, Spot, leave_buffer, marker_left, Span, Overlay, overlay_left}
use Rattle.text_model.specs.Commit.{Site}
use Rattle.text_model.proofs.Cases.{by_test}
use Rattle.text_model.proofs.Lists.{set_same, set_other, get_front}
use Rattle.machine_laws.specs.Fits.{SpotFits, MarkersFit, MarksFit, GoodSite, SpanFits, OverlaysFit}
use Rattle.machine_laws.specs.Brackets.{shapes}
use Rattle.machine_laws.proofs.OneBuffer.{passes_self}
use Rattle.machine_laws.proofs.Sites.{SiteStep, site_after}
use Rattle.editor_model.specs.Editor.{Editor, Live, live, buffer_at, empty_buffer, change_site, with_buffer, new_live, renamed, named_as, killed, live_from, Name}
use Rattle.machine_laws.proofs.GoodEditor.{GoodEditor, Advances, Passes}
use Rattle.machine_laws.proofs.Basics.{get_new, set_length}

-- LISTS
some_none_at : {A : Type 0} (xs : List A) (k : ℕ) → k < length xs → slice_get xs k ≡ None → ⊥
some_none_at [] k h e = omega arith
some_none_at (x ∷ xs) zero h e = none-some x (sym e)
some_none_at (x ∷ xs) (suc k) h e = some_none_at xs k (omega arith) e

-- LIVE BUFFERS
pub live_within : (e : Editor) (id : ℕ) (l : Live) → live e id ≡ Some l → slice_get e.buffers id ≡ Some (Some l)
live_within e id l h = go (slice_get e.buffers id) refl h
  where
    go : (o : Option (Option Live)) → slice_get e.buffers id ≡ o → unwrap_or o None ≡ Some l → slice_get e.buffers id ≡ Some (Some l)
    go None q k = absurd (none-some l k)
    go (Some v) q k = q ∙ ap Some k

pub live_below : (e : Editor) (id : ℕ) (l : Live) → live e id ≡ Some l → id < length e.buffers
live_below e id l h = slice_get_within e.buffers id (Some l) (live_within e id l h)

pub live_past : (e : Editor) (id : ℕ) → length e.buffers ≤ id → live e id ≡ None
live_past e id h = ap (λ o. unwrap_or o None) (slice_get_past e.buffers id h)

pub buffer_live : (e : Editor) (id : ℕ) (l : Live) → live e id ≡ Some l → buffer_at e id ≡ l.buffer
buffer_live e id l h = rw (h, buffer_at) refl

buffer_past : (e : Editor) (id : ℕ) → length e.buffers ≤ id → buffer_at e id ≡ empty_buffer
buffer_past e id h = rw (live_past e id h, buffer_at) refl

-- the size of a buffer's text, 0 where it doesn't live
abbrev pub size_of : Editor → ℕ → ℕ
size_of e id = length (buffer_at e id).text

-- STEPS ON ONE BUFFER
pub advances_self : (e : Editor) → GoodEditor e → Advances e e
advances_self e g = record {
  good = g;
  longer = omega arith;
  dead = λ id h k. k;
  passes = λ id l m h k. let q : l ≡ m = same_Some l m (sym h ∙ k) in subst (λ x. Passes l.buffer x.buffer) q (passes_self l.buffer (g.each id l h).good);
}

-- where the list of buffers is as it was
pub marks_only : (e new : Editor) → GoodEditor e → new.buffers ≡ e.buffers → ((id : ℕ) → MarksFit id (size_of e id) e.marks → MarksFit id (size_of e id) new.marks) → Advances e new
marks_only e new g q f = record {
  good = record { each = each; unborn = unborn };
  longer = rw q (omega arith);
  dead = λ id h k. same id ∙ k;
  passes = λ id l m h k. let r : l ≡ m = same_Some l m (sym h ∙ sym (same id) ∙ k) in subst (λ x. Passes l.buffer x.buffer) r (passes_self l.buffer (g.each id l h).good);
}
  where
    same : (id : ℕ) → live new id ≡ live e id
    same id = ap (λ bs. unwrap_or (slice_get bs id) None) q

    each : (id : ℕ) (l : Live) → live new id ≡ Some l → GoodSite id (record { buffer = l.buffer; marks = new.marks })
    each id l h =
        let k : live e id ≡ Some l = sym (same id) ∙ h in
        let old : GoodSite id (record { buffer = l.buffer; marks = e.marks }) = g.each id l k in
        let size : size_of e id ≡ length l.buffer.text = ap (λ b. length b.text) (buffer_live e id l k) in
        record { good = old.good; fits = record { begin_fits = old.fits.begin_fits; end_fits = old.fits.end_fits; begin_to_point = old.fits.begin_to_point; point_to_end = old.fits.point_to_end; marks_fit = subst (λ n. MarksFit id n new.marks) size (f id (subst (λ n. MarksFit id n e.marks) (sym size) old.fits.marks_fit)) } }

    unborn : (id : ℕ) → length new.buffers ≤ id → MarksFit id 0 new.marks
    unborn id h =
        let k : length e.buffers ≤ id = subst (λ bs. length bs ≤ id) q h in
        let size : size_of e id ≡ 0 = ap (λ b. length b.text) (buffer_past e id k) in
        subst (λ n. MarksFit id n new.marks) size (f id (subst (λ n. MarksFit id n e.marks) (sym size) (g.unborn id k)))

-- the list with one place changed
pub live_set_same : (e new : Editor) (id : ℕ) (v old : Option Live) → new.buffers ≡ slice_set e.buffers id v → slice_get e.buffers id ≡ Some old → live new id ≡ v
live_set_same e new id v old q h = ap (λ bs. unwrap_or (slice_get bs id) None) q ∙ ap (λ o. unwrap_or o None) (set_same e.buffers id v old h)

pub live_set_other : (e new : Editor) (id j : ℕ) (v : Option Live) → new.buffers ≡ slice_set e.buffers id v → (j ≡ id → ⊥) → live new j ≡ live e j
live_set_other e new id j v q d = ap (λ bs. unwrap_or (slice_get bs j) None) q ∙ ap (λ o. unwrap_or o None) (set_other e.buffers id j v d)

-- one buffer changed, and what stands beside it, so that all other places stay
pub one_advances : (e new : Editor) (id : ℕ) (l n : Live) → GoodEditor e → live e id ≡ Some l → new.buffers ≡ slice_set e.buffers id (Some n) → GoodSite id (record { buffer = n.buffer; marks = new.marks }) → Passes l.buffer n.buffer →
    ((j size : ℕ) → (j ≡ id → ⊥) → MarksFit j size e.marks → MarksFit j size new.marks) → Advances e new
one_advances e new id l n g h q s p others = record {
  good = record { each = λ j m k. each j m k (cases_eq j id); unborn = unborn };
  longer = let x : length new.buffers ≡ length e.buffers = ap length q ∙ set_length e.buffers id (Some n) in omega arith;
  dead = λ j m k. let d : j ≡ id → ⊥ = (λ r. none-some l (sym k ∙ ap (live e) r ∙ h)) in live_set_other e new id j (Some n) q d ∙ k;
  passes = λ j m k x y. passes j m k x y (cases_eq j id);
}
  where
    same : live new id ≡ Some n
    same = live_set_same e new id (Some n) (Some l) q (live_within e id l h)

    each : (j : ℕ) (m : Live) → live new j ≡ Some m → (j ≡ id) ⊎ (j ≡ id → ⊥) → GoodSite j (record { buffer = m.buffer; marks = new.marks })
    each j m k (inl r) =
        let x : n ≡ m = same_Some n m (sym same ∙ ap (live new) (sym r) ∙ k) in
        subst (λ i. GoodSite i (record { buffer = m.buffer; marks = new.marks })) (sym r) (subst (λ y. GoodSite id (record { buffer = y.buffer; marks = new.marks })) x s)
    each j m k (inr d) =
        let old : GoodSite j (record { buffer = m.buffer; marks = e.marks }) = g.each j m (sym (live_set_other e new id j (Some n) q d) ∙ k) in
        record { good = old.good; fits = record { begin_fits = old.fits.begin_fits; end_fits = old.fits.end_fits; begin_to_point = old.fits.begin_to_point; point_to_end = old.fits.point_to_end; marks_fit = others j (length m.buffer.text) d old.fits.marks_fit } }

    unborn : (j : ℕ) → length new.buffers ≤ j → MarksFit j 0 new.marks
    unborn j k =
        let x : length new.buffers ≡ length e.buffers = ap length q ∙ set_length e.buffers id (Some n) in
        let b : id < length e.buffers = live_below e id l h in
        others j 0 (λ r. omega arith) (g.unborn j (omega arith))

    passes : (j : ℕ) (m k : Live) → live e j ≡ Some m → live new j ≡ Some k → (j ≡ id) ⊎ (j ≡ id → ⊥) → Passes m.buffer k.buffer
    passes j m k x y (inl r) =
        let a : l ≡ m = same_Some l m (sym h ∙ ap (live e) (sym r) ∙ x) in
        let b : n ≡ k = same_Some n k (sym same ∙ ap (live new) (sym r) ∙ y) in
        subst (λ z. Passes m.buffer z.buffer) b (subst (λ z. Passes z.buffer n.buffer) a p)
    passes j m k x y (inr d) =
        let a : m ≡ k = same_Some m k (sym x ∙ sym (live_set_other e new id j (Some n) q d) ∙ y) in
        subst (λ z. Passes m.buffer z.buffer) a (passes_self m.buffer (g.each j m x).good)

pub site_advances : (id : ℕ) (f : Site → Site) (e : Editor) → GoodEditor e → ((l : Live) → live e id ≡ Some l → SiteStep id (record { buffer = l.buffer; marks = e.marks }) (f (record { buffer = l.buffer; marks = e.marks }))) →
    Advances e (change_site id f e)
site_advances id f e g h = go (live e id) refl
  where
    go : (o : Option Live) → live e id ≡ o → Advances e (elim o [
      | None ↦ e
      | Some l ↦
          let site : Site = f (record { buffer = l.buffer; marks = e.marks }) in
          record e { buffers = slice_set e.buffers id (Some (record l { buffer = site.buffer })); marks = site.marks }
    ])
    go None q = advances_self e g
    go (Some l) q =
        let step : SiteStep id (record { buffer = l.buffer; marks = e.marks }) (f (record { buffer = l.buffer; marks = e.marks })) = h l q in
        one_advances e _ id l _ g q refl (site_after id _ _ step) step.passes step.fitting.others

-- the buffer then
abbrev renewed : (Site → Site) → Marks → Live → Option Live
renewed f marks l = Some (record l { buffer = (f (record { buffer = l.buffer; marks = marks })).buffer })

pub site_live : (id : ℕ) (f : Site → Site) (e : Editor) (l : Live) → live e id ≡ Some l → live (change_site id f e) id ≡ Some (record l { buffer = (f (record { buffer = l.buffer; marks = e.marks })).buffer })
site_live id f e l h = go (live e id) refl h
  where
    go : (o : Option Live) → live e id ≡ o → o ≡ Some l → let new : Editor = elim o [
      | None ↦ e
      | Some m ↦
          let site : Site = f (record { buffer = m.buffer; marks = e.marks }) in
          record e { buffers = slice_set e.buffers id (Some (record m { buffer = site.buffer })); marks = site.marks }
    ] in live new id ≡ Some (record l { buffer = (f (record { buffer = l.buffer; marks = e.marks })).buffer })
    go None q r = absurd (none-some l r)
    go (Some m) q r =
        let x : m ≡ l = same_Some m l r in
        let site : Site = f (record { buffer = m.buffer; marks = e.marks }) in
        let n : Live = record m { buffer = site.buffer } in
        let new : Editor = record e { buffers = slice_set e.buffers id (Some n); marks = site.marks } in
        live_set_same e new id (Some n) (Some m) refl (live_within e id m q) ∙ ap (renewed f e.marks) x

-- the size of its text then
pub size_after : (id : ℕ) (f : Site → Site) (e : Editor) (l : Live) → live e id ≡ Some l → size_of (change_site id f e) id ≡ length (f (record { buffer = l.buffer; marks = e.marks })).buffer.text
size_after id f e l h = go (live e id) refl h
  where
    go : (o : Option Live) → live e id ≡ o → o ≡ Some l → let new : Editor = elim o [
      | None ↦ e
      | Some m ↦
          let site : Site = f (record { buffer = m.buffer; marks = e.marks }) in
          record e { buffers = slice_set e.buffers id (Some (record m { buffer = site.buffer })); marks = site.marks }
    ] in size_of new id ≡ length (f (record { buffer = l.buffer; marks = e.marks })).buffer.text
    go None q r = absurd (none-some l r)
    go (Some m) q r =
        let x : m ≡ l = same_Some m l r in
        let site : Site = f (record { buffer = m.buffer; marks = e.marks }) in
        let n : Live = record m { buffer = site.buffer } in
        let new : Editor = record e { buffers = slice_set e.buffers id (Some n); marks = site.marks } in
        ap (λ b. length b.text) (buffer_live new id n (live_set_same e new id (Some n) (Some m) refl (live_within e id m q))) ∙ ap (λ y. length (f (record { buffer = y.buffer; marks = e.marks })).buffer.text) x

pub site_shapes : (id : ℕ) (f : Site → Site) (e : Editor) → ((l : Live) → live e id ≡ Some l → shapes (f (record { buffer = l.buffer; marks = e.marks })).marks.saved ≡ shapes e.marks.saved) → shapes (change_site id f e).marks.saved ≡ shapes e.marks.saved
site_shapes id f e h = go (live e id) refl
  where
    go : (o : Option Live) → live e id ≡ o → let new : Editor = elim o [
      | None ↦ e
      | Some l ↦
          let site : Site = f (record { buffer = l.buffer; marks = e.marks }) in
          record e { buffers = slice_set e.buffers id (Some (record l { buffer = site.buffer })); marks = site.marks }
    ] in shapes new.marks.saved ≡ shapes e.marks.saved
    go None q = refl
    go (Some l) q = h l q

-- a place of the list where no buffer lives then
pub set_none_advances : (e new : Editor) (id : ℕ) → GoodEditor e → new.buffers ≡ slice_set e.buffers id None → ((j size : ℕ) → MarksFit j size e.marks → MarksFit j size new.marks) → Advances e new
set_none_advances e new id g q f = record {
  good = record { each = λ j m k. each j m k (cases_eq j id); unborn = λ j h. let x : length new.buffers ≡ length e.buffers = ap length q ∙ set_length e.buffers id None in f j 0 (g.unborn j (omega arith)) };
  longer = let x : length new.buffers ≡ length e.buffers = ap length q ∙ set_length e.buffers id None in omega arith;
  dead = λ j m k. dead j k (cases_eq j id);
  passes = λ j m k x y. passes j m k x y (cases_eq j id);
}
  where
    none : live new id ≡ None
    none = go (slice_get e.buffers id) refl
      where
        go : (o : Option (Option Live)) → slice_get e.buffers id ≡ o → live new id ≡ None
        go None k = ap (λ bs. unwrap_or (slice_get bs id) None) q ∙ ap (λ o. unwrap_or o None) (slice_get_past (slice_set e.buffers id None) id (let x : length (slice_set e.buffers id None) ≡ length e.buffers = set_length e.buffers id None in let y : length e.buffers ≤ id = past k in omega arith))
          where
            past : slice_get e.buffers id ≡ None → length e.buffers ≤ id
            past k = by_order (nat_lt id (length e.buffers)) refl
              where
                by_order : (v : Bool) → nat_lt id (length e.buffers) ≡ v → length e.buffers ≤ id
                by_order true r = absurd (some_none_at e.buffers id (ltb-true id (length e.buffers) r) k)
                by_order false r = ltb-false id (length e.buffers) r
        go (Some old) k = live_set_same e new id None old q k

    other : (j : ℕ) → (j ≡ id → ⊥) → live new j ≡ live e j
    other j d = live_set_other e new id j None q d

    each : (j : ℕ) (m : Live) → live new j ≡ Some m → (j ≡ id) ⊎ (j ≡ id → ⊥) → GoodSite j (record { buffer = m.buffer; marks = new.marks })
    each j m k (inl r) = absurd (none-some m (sym none ∙ ap (live new) (sym r) ∙ k))
    each j m k (inr d) =
        let old : GoodSite j (record { buffer = m.buffer; marks = e.marks }) = g.each j m (sym (other j d) ∙ k) in
        record { good = old.good; fits = record { begin_fits = old.fits.begin_fits; end_fits = old.fits.end_fits; begin_to_point = old.fits.begin_to_point; point_to_end = old.fits.point_to_end; marks_fit = f j (length m.buffer.text) old.fits.marks_fit } }

    dead : (j : ℕ) → live e j ≡ None → (j ≡ id) ⊎ (j ≡ id → ⊥) → live new j ≡ None
    dead j k (inl r) = ap (live new) r ∙ none
    dead j k (inr d) = other j d ∙ k

    passes : (j : ℕ) (m k : Live) → live e j ≡ Some m → live new j ≡ Some k → (j ≡ id) ⊎ (j ≡ id → ⊥) → Passes m.buffer k.buffer
    passes j m k x y (inl r) = absurd (none-some k (sym none ∙ ap (live new) (sym r) ∙ y))
    passes j m k x y (inr d) =
        let a : m ≡ k = same_Some m k (sym x ∙ sym (other j d) ∙ y) in
        subst (λ z. Passes m.buffer z.buffer) a (passes_self m.buffer (g.each j m x).good)

gone_advances : (e new : Editor) (id : ℕ) → GoodEditor e → live e id ≡ None → new.buffers ≡ slice_set e.buffers id None → new.marks ≡ e.marks → Advances e new
gone_advances e new id g h q r = set_none_advances e new id g q (λ j size k. subst (λ m. MarksFit j size m) (sym r) k)

-- A BUFFER MADE, NAMED, KILLED
-- further buffers made besides
advances_more : (e new more : Editor) → Advances e new → GoodEditor more → length new.buffers ≤ length more.buffers → ((id : ℕ) → id < length new.buffers → live more id ≡ live new id) → Advances e more
advances_more e new more a g l same = record {
  good = g;
  longer = let x : length e.buffers ≤ length new.buffers = a.longer in omega arith;
  dead = λ id h k. let x : length e.buffers ≤ length new.buffers = a.longer in same id (omega arith) ∙ a.dead id h k;
  passes = λ id m k h j. let x : length e.buffers ≤ length new.buffers = a.longer in let y : id < length e.buffers = live_below e id m h in a.passes id m k h (sym (same id (omega arith)) ∙ j);
}

empty_good : (id : ℕ) (marks : Marks) → MarksFit id 0 marks → GoodSite id (record { buffer = empty_buffer; marks = marks })
empty_good id marks f = record {
  good = record { ordered = tt; falling = tt; off = λ h. refl; below = omega arith; agrees = λ s h k. absurd (omega arith) };
  fits = record { begin_fits = omega arith; end_fits = omega arith; begin_to_point = omega arith; point_to_end = omega arith; marks_fit = f };
}

pub with_buffer_old : (name : Name) (e : Editor) (id : ℕ) → id < length e.buffers → live (with_buffer name e) id ≡ live e id
with_buffer_old name e id h = ap (λ o. unwrap_or o None) (get_front e.buffers (Some (new_live name) ∷ []) id h)

pub with_buffer_new : (name : Name) (e : Editor) → live (with_buffer name e) (length e.buffers) ≡ Some (new_live name)
with_buffer_new name e = ap (λ o. unwrap_or o None) (get_new e.buffers (Some (new_live name)))

pub with_buffer_longer : (name : Name) (e : Editor) → length (with_buffer name e).buffers ≡ length e.buffers + 1
with_buffer_longer name e = length-append e.buffers (Some (new_live name) ∷ [])

with_buffer_good : (name : Name) (e : Editor) → GoodEditor e → GoodEditor (with_buffer name e)
with_buffer_good name e g = record {
  each = λ id l h. each id l h (cases_order id (length e.buffers));
  unborn = λ id h. let x : length (with_buffer name e).buffers ≡ length e.buffers + 1 = with_buffer_longer name e in g.unborn id (omega arith);
}
  where
    each : (id : ℕ) (l : Live) → live (with_buffer name e) id ≡ Some l → (id ≡ length e.buffers) ⊎ ((id < length e.buffers) ⊎ (length e.buffers < id)) → GoodSite id (record { buffer = l.buffer; marks = e.marks })
    each id l h (inl q) =
        let x : new_live name ≡ l = same_Some _ l (sym (with_buffer_new name e) ∙ ap (live (with_buffer name e)) (sym q) ∙ h) in
        subst (λ y. GoodSite id (record { buffer = y.buffer; marks = e.marks })) x (empty_good id e.marks (g.unborn id (omega arith)))
    each id l h (inr (inl q)) = g.each id l (sym (with_buffer_old name e id q) ∙ h)
    each id l h (inr (inr q)) =
        let x : length (with_buffer name e).buffers ≡ length e.buffers + 1 = with_buffer_longer name e in
        absurd (none-some l (sym (live_past (with_buffer name e) id (omega arith)) ∙ h))

pub with_buffer_advances : (name : Name) (e : Editor) → GoodEditor e → Advances e (with_buffer name e)
with_buffer_advances name e g = advances_more e e (with_buffer name e) (advances_self e g) (with_buffer_good name e g) (let x : length (with_buffer name e).buffers ≡ length e.buffers + 1 = with_buffer_longer name e in omega arith) (with_buffer_old name e)

pub renamed_advances : (id : ℕ) (name : Name) (e : Editor) → GoodEditor e → Advances e (renamed id name e)
renamed_advances id name e g = go (live e id) refl
  where
    go : (o : Option Live) → live e id ≡ o → Advances e (record e { buffers = slice_set e.buffers id (named_as name o) })
    go None q = gone_advances e _ id g q refl refl
    go (Some l) q = one_advances e _ id l (record l { name = name }) g q refl (g.each id l q) (passes_self l.buffer (g.each id l q).good) (λ j size d h. h)

left_fits : (b id size : ℕ) (ms : List Marker) → MarkersFit id size ms → MarkersFit id size (map (marker_left b) ms)
left_fits b id size [] h = tt
left_fits b id size (m ∷ ms) h = (one m.spot h.0, left_fits b id size ms h.1)
  where
    one : (o : Option Spot) → SpotFits id size o → SpotFits id size (elim o [ None ↦ None | Some s ↦ if s.buffer == b then None else Some s ])
    one None k = tt
    one (Some s) k = by_test (λ x. SpotFits id size x) (s.buffer == b) None (Some s) (λ q. tt) (λ q. k)

overlays_left : (b id size : ℕ) (os : List Overlay) → OverlaysFit id size os → OverlaysFit id size (map (overlay_left b) os)
overlays_left b id size [] h = tt
overlays_left b id size (o ∷ os) h = (one o.span h.0, overlays_left b id size os h.1)
  where
    one : (x : Option Span) → SpanFits id size x → SpanFits id size (elim x [ None ↦ None | Some s ↦ if s.buffer == b then None else Some s ])
    one None k = tt
    one (Some s) k = by_test (λ y. SpanFits id size y) (s.buffer == b) None (Some s) (λ q. tt) (λ q. k)

current_advances : (e new : Editor) (id : ℕ) → Advances e new → Advances e (record new { current = id })
current_advances e new id a = record { good = record { each = a.good.each; unborn = a.good.unborn }; longer = a.longer; dead = a.dead; passes = a.passes }

pub killed_advances : (id : ℕ) (e : Editor) → GoodEditor e → Advances e (killed id e)
killed_advances id e g = go (live_from 0 gone.buffers) (e.current == id)
  where
    gone : Editor
    gone = record e { buffers = slice_set e.buffers id None; marks = leave_buffer id e.marks }

    a : Advances e gone
    a = set_none_advances e gone id g refl (λ j size h. record { markers = left_fits id j size e.marks.markers h.markers; overlays = overlays_left id j size e.marks.overlays h.overlays; saved = h.saved })

    go : (ids : List ℕ) (was_current : Bool) → Advances e (elim ids [
      | [] ↦ record (with_buffer Rattle.editor_model.specs.Editor.scratch gone) { current = length gone.buffers }
      | n ∷ more ↦ if was_current then record gone { current = n } else gone
    ])
    go [] v = current_advances e _ _ (advances_more e gone (with_buffer Rattle.editor_model.specs.Editor.scratch gone) a (with_buffer_good _ gone a.good) (let x : length (with_buffer Rattle.editor_model.specs.Editor.scratch gone).buffers ≡ length gone.buffers + 1 = with_buffer_longer _ gone in omega arith) (with_buffer_old _ gone))
    go (n ∷ more) v = by_test (λ x. Advances e x) v (record gone { current = n }) gone (λ q. current_advances e gone n a) (λ q. a)
