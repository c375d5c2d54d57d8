-- Names of live buffers differ, and there are few buffers: each change of the editor keeps this.
use Rattle.std.proofs.Common.{◌≡◌, ◌⊎◌, inl, inr, ℕ, zero, suc, ◌+◌, ◌<◌, ◌≤◌, Bool, true, false, List, [], ◌∷◌, length, refl, ap, sym, ◌∙◌, subst, arith}
use Rattle.std.specs.Prelude.{◌==◌, if◌then◌else◌, nat_lt, slice_get, slice_set, Option, Some, None, unwrap_or}
use Rattle.std.proofs.lemmas.Bool.{cases_eq, cases_order, ltb-true}
use Rattle.std.proofs.lemmas.Option.{same_Some, none-some}
use Rattle.text_model.specs.Undo.{passed, with_boundary, started, disabled, enabled}
use Rattle.text_model.specs.Marks.{leave_buffer}
use Rattle.text_model.specs.Commit.{Buffer, Site, reset, undone_groups}
use Rattle.text_model.proofs.Cases.{by_test}
use Rattle.text_model.proofs.Lists.{set_other}
use Rattle.editor_model.specs.Values.{Value, Nil, Int, Str, TheBuffer, TheMarker, Fault, TooMany, Prim, SetBuffer, GetBufferCreate, GenerateNewBuffer, RenameBuffer, SetBufferModifiedP, SetBufferReadOnly, GotoChar, NarrowToRegion, Widen, MakeMarker, PointMarker, CopyMarker, SetMarker, SetMarkerInsertionType, MakeOverlay, OverlayPut, MoveOverlay, DeleteOverlay, UndoBoundary, UndoStart, BufferDisableUndo, BufferEnableUndo}
use Rattle.editor_model.specs.Editor.{Editor, Name, Live, live, is_live, find, find_from, live_from, scratch, with_buffer, new_live, renamed, protected, named_as, change_site, change_buffer, killed, free_name, others, buffer_at}
use Rattle.editor_model.specs.Answers.{Test, first_fault, applied, applied_of, What, Put, Props, UndoGroups, Change}
use Rattle.editor_model.specs.Arguments.{arg, flag, name_of, place, from_of, to_of, must_be_name, must_be_short, must_be_fewer}
use Rattle.editor_model.specs.BufferCalls.{found_or_made, get_buffer_create}
use Rattle.editor_model.specs.Limits.{most_buffers}
use Rattle.editor_model.specs.MarkerCalls.{copy_marker}
use Rattle.editor_model.specs.Commits.{mark_to, put_site, changed, commit_of, commit_tests}
use Rattle.editor_model.specs.TextCalls.{point_at, narrowed, widened}
use Rattle.editor_model.specs.Table.{apply, commit}
use Rattle.plain_machine.specs.Refusals.{is_last, must_be_replaceable, only_where}
use Rattle.machine_laws.proofs.Advancing.{live_within, live_past, live_set_same, live_set_other, with_buffer_old, with_buffer_new, with_buffer_longer}
use Rattle.machine_laws.proofs.Basics.{set_length}
use Rattle.machine_laws.proofs.Committing.{some_of}
use Rattle.machine_laws.proofs.FirstNames.{not_found, name_is_free}
use Rattle.machine_laws.proofs.Tests.{refuse_ok, no_fault}

pub record Named (e : Editor) : Type 0 where
  pub few : length e.buffers ≤ 256
  pub differ : (id other : ℕ) (l m : Live) → live e id ≡ Some l → live e other ≡ Some m → l.name ≡ m.name → id ≡ other

-- THE SAME NAMES
record SameNames (e new : Editor) : Type 0 where
  size : length new.buffers ≡ length e.buffers
  old : (id : ℕ) (m : Live) → live new id ≡ Some m → (l : Live) × (live e id ≡ Some l) × (l.name ≡ m.name)

names_kept : (e new : Editor) → SameNames e new → Named e → Named new
names_kept e new s n = record { few = subst (λ k. k ≤ 256) (sym s.size) n.few; differ = λ id other l m h k q. differ id other l m (s.old id l h) (s.old other m k) q }
  where
    differ : (id other : ℕ) (l m : Live) → (x : Live) × (live e id ≡ Some x) × (x.name ≡ l.name) → (y : Live) × (live e other ≡ Some y) × (y.name ≡ m.name) → l.name ≡ m.name → id ≡ other
    differ id other l m x y q = n.differ id other x.0 y.0 x.1 y.1 (x.2 ∙ q ∙ sym y.2)

set_names : (e new : Editor) (id : ℕ) (l n : Live) → live e id ≡ Some l → new.buffers ≡ slice_set e.buffers id (Some n) → l.name ≡ n.name → SameNames e new
set_names e new id l n h q s = record { size = ap length q ∙ set_length e.buffers id (Some n); old = λ j m r. go j m r (cases_eq j id) }
  where
    go : (j : ℕ) (m : Live) → live new j ≡ Some m → (j ≡ id) ⊎ (j ≡ id → ⊥) → (x : Live) × (live e j ≡ Some x) × (x.name ≡ m.name)
    go j m r (inl p) =
        let t : n ≡ m = same_Some n m (sym (live_set_same e new id (Some n) (Some l) q (live_within e id l h)) ∙ ap (live new) (sym p) ∙ r) in
        (l, ap (live e) p ∙ h, s ∙ ap (λ (x : Live). x.name) t)
    go j m r (inr d) = (m, sym (live_set_other e new id j (Some n) q d) ∙ r, refl)

-- where a buffer isn't there any more
gone_old : (e new : Editor) (id : ℕ) → new.buffers ≡ slice_set e.buffers id None → (j : ℕ) (m : Live) → live new j ≡ Some m → (j ≡ id → ⊥) × (live e j ≡ Some m)
gone_old e new id q j m r = go (cases_eq j id)
  where
    here : (o : Option (Option Live)) → slice_get e.buffers id ≡ o → live new id ≡ None
    here None k = ap (λ (bs : List (Option Live)). unwrap_or (slice_get bs id) None) q ∙ ap (λ (o : Option (Option Live)). unwrap_or o None) (unset e.buffers id k)
      where
        unset : (xs : List (Option Live)) (i : ℕ) → slice_get xs i ≡ None → slice_get (slice_set xs i None) i ≡ None
        unset [] i k = refl
        unset (x ∷ xs) zero k = cc
        unset (x ∷ xs) (suc i) k = unset xs i k
    here (Some old) k = live_set_same e new id None old q k

    go : (j ≡ id) ⊎ (j ≡ id → ⊥) → (j ≡ id → ⊥) × (live e j ≡ Some m)
    go (inl s) = absurd (none-some m (sym (here (slice_get e.buffers id) refl) ∙ ap (live new) (sym s) ∙ r))
    go (inr d) = (d, sym (live_set_other e new id j None q d) ∙ r)

gone_names : (e new : Editor) (id : ℕ) → new.buffers ≡ slice_set e.buffers id None → SameNames e new
gone_names e new id q = record { size = ap length q ∙ set_length e.buffers id None; old = λ j m r. (m, (gone_old e new id q j m r).1, refl) }

site_names : (id : ℕ) (f : Site → Site) (e : Editor) → Named e → Named (change_site id f e)
site_names id f e n = go (live e id) refl
  where
    go : (o : Option Live) → live e id ≡ o → Named (elim o [
      | None ↦ e
      | Some l ↦
          let site : Site = f (record { buffer = l.buffer; marks = e.marks }) in
          record e { buffers = slice_set e.buffers id (Some (record l { buffer = site.buffer })); marks = site.marks }
    ])
    go None q = n
    go (Some l) q = names_kept e _ (set_names e _ id l (record l { buffer = (f (record { buffer = l.buffer; marks = e.marks })).buffer }) q refl refl) n

pub buffer_named : (id : ℕ) (f : Buffer → Buffer) (e : Editor) → Named e → Named (change_buffer id f e)
buffer_named id f e n = site_names id (λ site. record site { buffer = f site.buffer }) e n

protected_named : (id : ℕ) (on : Bool) (e : Editor) → Named e → Named (protected id on e)
protected_named id on e n = go (live e id) refl
  where
    go : (o : Option Live) → live e id ≡ o → Named (elim o [ None ↦ e | Some l ↦ record e { buffers = slice_set e.buffers id (Some (record l { read_only = on })) } ])
    go None q = n
    go (Some l) q = names_kept e _ (set_names e _ id l (record l { read_only = on }) q refl refl) n

-- editors with the same buffers
pub same_named : (e new : Editor) → new.buffers ≡ e.buffers → Named e → Named new
same_named e new q n = names_kept e new (record { size = ap length q; old = λ id m r. (m, sym (ap (λ (bs : List (Option Live)). unwrap_or (slice_get bs id) None) q) ∙ r, refl) }) n

-- A BUFFER MADE, NAMED, KILLED
made_old : (name : Name) (e : Editor) (id : ℕ) (l : Live) → live (with_buffer name e) id ≡ Some l → ((id ≡ length e.buffers) × (l.name ≡ name)) ⊎ (live e id ≡ Some l)
made_old name e id l h = go (cases_order id (length e.buffers))
  where
    go : (id ≡ length e.buffers) ⊎ ((id < length e.buffers) ⊎ (length e.buffers < id)) → ((id ≡ length e.buffers) × (l.name ≡ name)) ⊎ (live e id ≡ Some l)
    go (inl q) = let x : new_live name ≡ l = same_Some _ l (sym (with_buffer_new name e) ∙ ap (live (with_buffer name e)) (sym q) ∙ h) in inl (q, sym (ap (λ (y : Live). y.name) x))
    go (inr (inl q)) = inr (sym (with_buffer_old name e id q) ∙ h)
    go (inr (inr q)) = let x : length (with_buffer name e).buffers ≡ length e.buffers + 1 = with_buffer_longer name e in absurd (none-some l (sym (live_past (with_buffer name e) id (omega arith)) ∙ h))

pub made_named : (name : Name) (e : Editor) → find_from 0 e.buffers name ≡ None → length e.buffers < 256 → Named e → Named (with_buffer name e)
made_named name e free room n = record {
  few = let x : length (with_buffer name e).buffers ≡ length e.buffers + 1 = with_buffer_longer name e in omega arith;
  differ = λ id other l m h k q. go id other l m (made_old name e id l h) (made_old name e other m k) q;
}
  where
    go : (id other : ℕ) (l m : Live) → ((id ≡ length e.buffers) × (l.name ≡ name)) ⊎ (live e id ≡ Some l) → ((other ≡ length e.buffers) × (m.name ≡ name)) ⊎ (live e other ≡ Some m) → l.name ≡ m.name → id ≡ other
    go id other l m (inl x) (inl y) q = x.0 ∙ sym y.0
    go id other l m (inl x) (inr k) q = absurd (not_found 0 e.buffers name other m free (live_within e other m k) (sym q ∙ x.1))
    go id other l m (inr h) (inl y) q = absurd (not_found 0 e.buffers name id l free (live_within e id l h) (q ∙ y.1))
    go id other l m (inr h) (inr k) q = n.differ id other l m h k q

renamed_named : (id : ℕ) (name : Name) (e : Editor) → find_from 0 (slice_set e.buffers id None) name ≡ None → Named e → Named (renamed id name e)
renamed_named id name e free n = go (live e id) refl
  where
    among : (new : Editor) (l : Live) → live e id ≡ Some l → new.buffers ≡ slice_set e.buffers id (Some (record l { name = name })) → Named new
    among new l h q = record { few = let x : length new.buffers ≡ length e.buffers = ap length q ∙ set_length e.buffers id (Some (record l { name = name })) in subst (λ k. k ≤ 256) (sym x) n.few; differ = λ i j x y a b s. by_case i j x y (old i x a (cases_eq i id)) (old j y b (cases_eq j id)) s }
      where
        old : (j : ℕ) (m : Live) → live new j ≡ Some m → (j ≡ id) ⊎ (j ≡ id → ⊥) → ((j ≡ id) × (m.name ≡ name)) ⊎ ((j ≡ id → ⊥) × (live e j ≡ Some m))
        old j m r (inl p) = let t : record l { name = name } ≡ m = same_Some _ m (sym (live_set_same e new id (Some (record l { name = name })) (Some l) q (live_within e id l h)) ∙ ap (live new) (sym p) ∙ r) in inl (p, sym (ap (λ (x : Live). x.name) t))
        old j m r (inr d) = inr (d, sym (live_set_other e new id j (Some (record l { name = name })) q d) ∙ r)

        taken : (j : ℕ) (m : Live) → (j ≡ id → ⊥) → live e j ≡ Some m → m.name ≡ name → ⊥
        taken j m d k s = not_found 0 (slice_set e.buffers id None) name j m free (set_other e.buffers id j None d ∙ live_within e j m k) s

        by_case : (i j : ℕ) (x y : Live) → ((i ≡ id) × (x.name ≡ name)) ⊎ ((i ≡ id → ⊥) × (live e i ≡ Some x)) → ((j ≡ id) × (y.name ≡ name)) ⊎ ((j ≡ id → ⊥) × (live e j ≡ Some y)) → x.name ≡ y.name → i ≡ j
        by_case i j x y (inl a) (inl b) s = a.0 ∙ sym b.0
        by_case i j x y (inl a) (inr b) s = absurd (taken j y b.0 b.1 (sym s ∙ a.1))
        by_case i j x y (inr a) (inl b) s = absurd (taken i x a.0 a.1 (s ∙ b.1))
        by_case i j x y (inr a) (inr b) s = n.differ i j x y a.1 b.1 s

    go : (o : Option Live) → live e id ≡ o → Named (record e { buffers = slice_set e.buffers id (named_as name o) })
    go None q = names_kept e (record e { buffers = slice_set e.buffers id None }) (gone_names e (record e { buffers = slice_set e.buffers id None }) id refl) n
    go (Some l) q = among (record e { buffers = slice_set e.buffers id (Some (record l { name = name })) }) l q refl

-- no live buffer is left
none_left : (k : ℕ) (bs : List (Option Live)) (i : ℕ) (l : Live) → live_from k bs ≡ [] → slice_get bs i ≡ Some (Some l) → ⊥
none_left k [] i l h e = cc
none_left k (None ∷ bs) zero l h e = cc
none_left k (None ∷ bs) (suc i) l h e = none_left (k + 1) bs i l h e
none_left k (Some x ∷ bs) i l h e = cc

-- a buffer behind which none is left was the last one
was_last : (k : ℕ) (bs : List (Option Live)) (i : ℕ) (l : Live) → slice_get bs i ≡ Some (Some l) → live_from k (slice_set bs i None) ≡ [] → live_from k bs ≡ (k + i) ∷ []
was_last k [] i l h e = cc
was_last k (None ∷ bs) zero l h e = cc
was_last k (None ∷ bs) (suc i) l h e = let q : k + 1 + i ≡ k + suc i = omega arith in was_last (k + 1) bs i l h e ∙ ap (λ (n : ℕ). n ∷ []) q
was_last k (Some x ∷ bs) zero l h e = let q : k ≡ k + 0 = omega arith in ap (λ (ns : List ℕ). k ∷ ns) e ∙ ap (λ (n : ℕ). n ∷ []) q
was_last k (Some x ∷ bs) (suc i) l h e = cc

-- it is the last one, so one more may be made
room_for_one : (e : Editor) (id : ℕ) → live_from 0 e.buffers ≡ id ∷ [] → must_be_replaceable e id ≡ None → length e.buffers < 256
room_for_one e id q h =
    let same : (id == id) ≡ true = grind arith in
    let last : is_last e id ≡ true = ap (λ (ids : List ℕ). let v : Bool = elim ids [ c ∷ [] ↦ c == id | _ ↦ false ] in v) q ∙ same in
    let t : must_be_fewer most_buffers (length e.buffers) ≡ None = sym (ap (λ (v : Bool). only_where v (must_be_fewer most_buffers (length e.buffers))) last) ∙ h in
    ltb-true (length e.buffers) most_buffers (refuse_ok TooMany (nat_lt (length e.buffers) most_buffers) t)

nothing_found : (k : ℕ) (bs : List (Option Live)) (name : Name) → live_from k bs ≡ [] → find_from k bs name ≡ None
nothing_found k [] name h = refl
nothing_found k (None ∷ bs) name h = nothing_found (k + 1) bs name h
nothing_found k (Some x ∷ bs) name h = cc

pub kills_named : (e : Editor) (id : ℕ) → is_live e id ≡ true → must_be_replaceable e id ≡ None → Named e → Named (killed id e)
kills_named e id lives t n = go (live_from 0 gone.buffers) refl (e.current == id)
  where
    gone : Editor
    gone = record e { buffers = slice_set e.buffers id None; marks = leave_buffer id e.marks }

    g : Named gone
    g = names_kept e gone (gone_names e gone id refl) n

    l : (l : Live) × (live e id ≡ Some l)
    l = some_of (live e id) lives

    room : live_from 0 gone.buffers ≡ [] → length gone.buffers < 256
    room q =
        let only : live_from 0 e.buffers ≡ (0 + id) ∷ [] = was_last 0 e.buffers id l.0 (live_within e id l.0 l.1) q in
        let zero_id : 0 + id ≡ id = omega arith in
        let x : length e.buffers < 256 = room_for_one e id (only ∙ ap (λ (i : ℕ). i ∷ []) zero_id) t in
        let y : length gone.buffers ≡ length e.buffers = set_length e.buffers id None in
        omega arith

    go : (ids : List ℕ) → live_from 0 gone.buffers ≡ ids → (v : Bool) → Named (elim ids [
      | [] ↦ record (with_buffer scratch gone) { current = length gone.buffers }
      | k ∷ more ↦ if v then record gone { current = k } else gone
    ])
    go [] q v = same_named (with_buffer scratch gone) _ refl (made_named scratch gone (nothing_found 0 gone.buffers scratch q) (room q) g)
    go (k ∷ more) q v = by_test (λ (x : Editor). Named x) v (record gone { current = k }) gone (λ r. same_named gone (record gone { current = k }) refl g) (λ r. g)

-- CALLS AND COMMITS
pub fewer_fits : (e : Editor) → must_be_fewer most_buffers (length e.buffers) ≡ None → length e.buffers < 256
fewer_fits e t = ltb-true (length e.buffers) most_buffers (refuse_ok TooMany (nat_lt (length e.buffers) most_buffers) t)

of_tests : (tests : List Test) (e new : Editor) (v : Value) → Named e → (first_fault tests ≡ None → Named new) → Named (applied e tests new v).editor
of_tests tests e new v n h = go (first_fault tests) refl
  where
    go : (o : Option Fault) → first_fault tests ≡ o → Named (applied_of o e new v).editor
    go None q = h q
    go (Some f) q = n

third : (a b c : Test) → first_fault (a ∷ b ∷ c ∷ []) ≡ None → c ≡ None
third a b c h = (no_fault c [] (no_fault b (c ∷ []) (no_fault a (b ∷ c ∷ []) h).1).1).0

found_named : (e : Editor) (name : Value) (o : Option ℕ) → find e (name_of name) ≡ o → Named e → Named (found_or_made e name o).editor
found_named e name None q n = of_tests (must_be_name name ∷ must_be_short name ∷ must_be_fewer most_buffers (length e.buffers) ∷ []) e _ _ n (λ t. made_named (name_of name) e q (fewer_fits e (third (must_be_name name) (must_be_short name) (must_be_fewer most_buffers (length e.buffers)) t)) n)
found_named e name (Some id) q n = n

create_named : (e : Editor) (v : Value) → Named e → Named (get_buffer_create e v).editor
create_named e (TheBuffer b) n = n
create_named e (Str s) n = found_named e (Str s) (find e (name_of (Str s))) refl n
create_named e _ n = n

of_fault : (o : Option Fault) (e new : Editor) (v : Value) → Named e → new.buffers ≡ e.buffers → Named (applied_of o e new v).editor
of_fault None e new v n q = same_named e new q n
of_fault (Some f) e new v n q = n

in_buffer : (o : Option Fault) (e new : Editor) (v : Value) → Named e → Named new → Named (applied_of o e new v).editor
in_buffer None e new v n m = m
in_buffer (Some f) e new v n m = n

copy_named : (e : Editor) (x kind : Value) → Named e → Named (copy_marker e x kind).editor
copy_named e Nil kind n = of_fault _ e _ _ n refl
copy_named e (Int i) kind n = of_fault _ e _ _ n refl
copy_named e (TheMarker k) kind n = of_fault _ e _ _ n refl
copy_named e _ kind n = n

others_few : (e : Editor) → Named e → length (others e) ≤ 256
others_few e n = subst (λ k. k ≤ 256) (sym (set_length e.buffers e.current None)) n.few

pub applies_named : (e : Editor) (prim : Prim) (args : List Value) → Named e → Named (apply e prim args).editor
applies_named e SetBuffer args n = of_fault _ e _ _ n refl
applies_named e GetBufferCreate args n = create_named e (arg args 0) n
applies_named e GenerateNewBuffer args n = of_tests (must_be_name (arg args 0) ∷ must_be_short (arg args 0) ∷ must_be_fewer most_buffers (length e.buffers) ∷ []) e _ _ n (λ t. made_named (free_name e.buffers (name_of (arg args 0))) e (name_is_free e.buffers (name_of (arg args 0)) n.few) (fewer_fits e (third (must_be_name (arg args 0)) (must_be_short (arg args 0)) (must_be_fewer most_buffers (length e.buffers)) t)) n)
applies_named e RenameBuffer args n = in_buffer _ e _ _ n (renamed_named e.current (free_name (others e) (name_of (arg args 0))) e (name_is_free (others e) (name_of (arg args 0)) (others_few e n)) n)
applies_named e SetBufferModifiedP args n = buffer_named e.current (λ b. record b { modified = flag (arg args 0) }) e n
applies_named e SetBufferReadOnly args n = protected_named e.current (flag (arg args 0)) e n
applies_named e GotoChar args n = in_buffer _ e _ _ n (buffer_named e.current (point_at (place e (arg args 0))) e n)
applies_named e NarrowToRegion args n = in_buffer _ e _ _ n (buffer_named e.current (narrowed (from_of e (arg args 0) (arg args 1)) (to_of e (arg args 0) (arg args 1))) e n)
applies_named e Widen args n = buffer_named e.current widened e n
applies_named e MakeMarker args n = of_fault _ e _ _ n refl
applies_named e PointMarker args n = of_fault _ e _ _ n refl
applies_named e CopyMarker args n = copy_named e (arg args 0) (arg args 1) n
applies_named e SetMarker args n = of_fault _ e _ _ n refl
applies_named e SetMarkerInsertionType args n = of_fault _ e _ _ n refl
applies_named e MakeOverlay args n = of_fault _ e _ _ n refl
applies_named e OverlayPut args n = of_fault _ e _ _ n refl
applies_named e MoveOverlay args n = of_fault _ e _ _ n refl
applies_named e DeleteOverlay args n = of_fault _ e _ _ n refl
applies_named e UndoBoundary args n = buffer_named e.current (λ b. record b { undo = with_boundary b.undo }) e n
applies_named e UndoStart args n = in_buffer _ e _ _ n (buffer_named e.current (λ b. record b { undo = started b.undo }) e n)
applies_named e BufferDisableUndo args n = buffer_named e.current (λ b. record b { undo = disabled b.undo }) e n
applies_named e BufferEnableUndo args n = buffer_named e.current (λ b. record b { undo = enabled b.undo }) e n
applies_named e _ args n = n

marked_named : (mark : Option ℕ) (id at : ℕ) (e : Editor) → Named e → Named (mark_to mark id at e)
marked_named None id at e n = n
marked_named (Some k) id at e n = same_named e (mark_to (Some k) id at e) refl n

what_named : (e : Editor) (id from to : ℕ) (what : What) → Named e → Named (changed e id from to what)
what_named e id from to (Put piece all point_after widen mark) n = marked_named mark id (from + length piece) (change_site id (put_site id from to piece all point_after widen) e) (site_names id (put_site id from to piece all point_after widen) e n)
what_named e id from to (Props edit) n = buffer_named id (reset edit from to) e n
what_named e id from to (UndoGroups k) n = site_names id (undone_groups id (passed k (buffer_at e id).undo)) e n

pub commits_named : (e : Editor) (c : Change) → Named e → Named (commit e c).editor
commits_named e c n = go (first_fault (commit_tests e c.buffer c.what))
  where
    go : (o : Option Fault) → Named (commit_of o e (changed e c.buffer c.from c.to c.what) c).editor
    go None = what_named e c.buffer c.from c.to c.what n
    go (Some f) = n
