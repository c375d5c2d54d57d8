-- The current buffer lives, and what holds of each live buffer, from one change of the editor to the next.
use Rattle.std.proofs.Common.{◌≡◌, ◌⊎◌, inl, inr, ℕ, zero, suc, ◌+◌, Bool, true, false, List, [], ◌∷◌, length, refl, ap, sym, ◌∙◌, subst, arith}
use Rattle.std.specs.Prelude.{◌==◌, if◌then◌else◌, Option, Some, None, is_some, unwrap_or, slice_get, slice_set, map}
use Rattle.std.proofs.lemmas.Bool.{cases_eq, false≢true}
use Rattle.std.proofs.lemmas.Option.{same_Some, none-some}
use Rattle.text_model.specs.Marks.{leave_buffer}
use Rattle.text_model.specs.Undo.{passed, with_boundary, started, disabled, enabled}
use Rattle.text_model.specs.Commit.{Buffer, Site, reset, undone_groups}
use Rattle.editor_model.specs.Values.{Value, Nil, Int, Str, TheBuffer, TheMarker, Fault, NoSuchBuffer, BufferKilled, Prim, SetBuffer, GetBufferCreate, GenerateNewBuffer, RenameBuffer, SetBufferModifiedP, SetBufferReadOnly, GotoChar, NarrowToRegion, Widen, MakeMarker, PointMarker, CopyMarker, SetMarker, SetMarkerInsertionType, MakeOverlay, OverlayPut, MoveOverlay, DeleteOverlay, UndoBoundary, UndoStart, BufferDisableUndo, BufferEnableUndo}
use Rattle.editor_model.specs.Editor.{Editor, Name, Live, live, is_live, find, find_from, live_from, same_name, scratch, with_buffer, new_live, renamed, protected, named_as, change_site, change_buffer, killed, free_name, others, buffer_at}
use Rattle.editor_model.specs.Answers.{first_fault, applied_of, What, Put, Props, UndoGroups, Change}
use Rattle.editor_model.specs.Arguments.{arg, flag, name_of, buffer_of, buffer_there, must_be_buffer, place, from_of, to_of}
use Rattle.editor_model.specs.BufferCalls.{found_or_made, get_buffer_create, set_buffer}
use Rattle.editor_model.specs.MarkerCalls.{copy_marker}
use Rattle.editor_model.specs.Commits.{mark_to, put_site, changed, commit_of, commit_tests}
use Rattle.editor_model.specs.TextCalls.{point_at, narrowed, widened}
use Rattle.editor_model.specs.Table.{apply, commit}
use Rattle.machine_laws.proofs.Advancing.{live_below, live_within, live_set_same, live_set_other, with_buffer_old, with_buffer_new}
use Rattle.machine_laws.proofs.Tests.{refuse_ok, no_fault}
use Rattle.machine_laws.proofs.Committing.{some_of}

-- LIVES
pub lives : (e : Editor) (id : ℕ) (l : Live) → live e id ≡ Some l → is_live e id ≡ true
lives e id l h = ap (λ (o : Option Live). is_some o) h

-- a buffer changed lives, and so do the others as before
pub set_lives : (e new : Editor) (id : ℕ) (l n : Live) → live e id ≡ Some l → new.buffers ≡ slice_set e.buffers id (Some n) → (j : ℕ) → is_live new j ≡ is_live e j
set_lives e new id l n h q j = go (cases_eq j id)
  where
    go : (j ≡ id) ⊎ (j ≡ id → ⊥) → is_live new j ≡ is_live e j
    go (inl r) =
        let a : is_live new id ≡ true = lives new id n (live_set_same e new id (Some n) (Some l) q (live_within e id l h)) in
        let b : is_live e id ≡ true = lives e id l h in
        ap (is_live new) r ∙ a ∙ sym b ∙ ap (is_live e) (sym r)
    go (inr d) = ap (λ (o : Option Live). is_some o) (live_set_other e new id j (Some n) q d)

pub site_lives : (id : ℕ) (f : Site → Site) (e : Editor) (j : ℕ) → is_live (change_site id f e) j ≡ is_live e j
site_lives id f e j = go (live e id) refl
  where
    go : (o : Option Live) → live e id ≡ o → let new : Editor = elim o [
      | None ↦ e
      | Some l ↦
          let site : Site = f (record { buffer = l.buffer; marks = e.marks }) in
          record e { buffers = slice_set e.buffers id (Some (record l { buffer = site.buffer })); marks = site.marks }
    ] in is_live new j ≡ is_live e j
    go None q = refl
    go (Some l) q =
        let site : Site = f (record { buffer = l.buffer; marks = e.marks }) in
        set_lives e (record e { buffers = slice_set e.buffers id (Some (record l { buffer = site.buffer })); marks = site.marks }) id l (record l { buffer = site.buffer }) q refl j

renamed_lives : (id : ℕ) (name : Name) (e : Editor) (j : ℕ) → is_live (renamed id name e) j ≡ is_live e j
renamed_lives id name e j = go (live e id) refl
  where
    gone : live e id ≡ None → (j ≡ id) ⊎ (j ≡ id → ⊥) → is_live (record e { buffers = slice_set e.buffers id None }) j ≡ is_live e j
    gone q (inl r) = ap (is_live (record e { buffers = slice_set e.buffers id None })) r ∙ none (slice_get e.buffers id) refl ∙ sym (ap (λ (o : Option Live). is_some o) (ap (live e) r ∙ q))
      where
        none : (o : Option (Option Live)) → slice_get e.buffers id ≡ o → is_live (record e { buffers = slice_set e.buffers id None }) id ≡ false
        none None k = ap (λ (o : Option (Option Live)). is_some (unwrap_or o None)) (unset e.buffers id k)
          where
            unset : (xs : List (Option Live)) (i : ℕ) → slice_get xs i ≡ None → slice_get (slice_set xs i None) i ≡ None
            unset [] i k = refl
            unset (x ∷ xs) zero k = cc
            unset (x ∷ xs) (suc i) k = unset xs i k
        none (Some old) k = ap (λ (o : Option Live). is_some o) (live_set_same e (record e { buffers = slice_set e.buffers id None }) id None old refl k)
    gone q (inr d) = ap (λ (o : Option Live). is_some o) (live_set_other e (record e { buffers = slice_set e.buffers id None }) id j None refl d)

    go : (o : Option Live) → live e id ≡ o → is_live (record e { buffers = slice_set e.buffers id (named_as name o) }) j ≡ is_live e j
    go None q = gone q (cases_eq j id)
    go (Some l) q = set_lives e (record e { buffers = slice_set e.buffers id (Some (record l { name = name })) }) id l (record l { name = name }) q refl j

longer_lives : (name : Name) (e : Editor) (j : ℕ) → is_live e j ≡ true → is_live (with_buffer name e) j ≡ true
longer_lives name e j h =
    let l : (l : Live) × (live e j ≡ Some l) = some_of (live e j) h in
    lives (with_buffer name e) j l.0 (with_buffer_old name e j (live_below e j l.0 l.1) ∙ l.1)

-- FOUND
pub record IsFound (k : ℕ) (bs : List (Option Live)) (name : Name) (id : ℕ) : Type 0 where
  pub place : ℕ
  pub buffer : Live
  pub is_id : id ≡ k + place
  pub there : slice_get bs place ≡ Some (Some buffer)
  pub named : same_name buffer.name name ≡ true

pub found_is : (k : ℕ) (bs : List (Option Live)) (name : Name) (id : ℕ) → find_from k bs name ≡ Some id → IsFound k bs name id
found_is k [] name id h = absurd (none-some id h)
found_is k (None ∷ bs) name id h =
    let x : IsFound (k + 1) bs name id = found_is (k + 1) bs name id h in
    let q : id ≡ k + 1 + x.place = x.is_id in
    record { place = suc x.place; buffer = x.buffer; is_id = omega arith; there = x.there; named = x.named }
found_is k (Some l ∷ bs) name id h = go (same_name l.name name) refl h (λ h. found_is (k + 1) bs name id h)
  where
    go : (v : Bool) → same_name l.name name ≡ v → (let o : Option ℕ = elim v [ true ↦ Some k | false ↦ find_from (k + 1) bs name ] in o ≡ Some id) → (find_from (k + 1) bs name ≡ Some id → IsFound (k + 1) bs name id) → IsFound k (Some l ∷ bs) name id
    go true q h more = let r : k ≡ id = same_Some k id h in record { place = 0; buffer = l; is_id = omega arith; there = refl; named = q }
    go false q h more =
        let x : IsFound (k + 1) bs name id = more h in
        let r : id ≡ k + 1 + x.place = x.is_id in
        record { place = suc x.place; buffer = x.buffer; is_id = omega arith; there = x.there; named = x.named }

found_lives : (e : Editor) (name : Name) (id : ℕ) → find e name ≡ Some id → is_live e id ≡ true
found_lives e name id h =
    let x : IsFound 0 e.buffers name id = found_is 0 e.buffers name id h in
    let q : id ≡ 0 + x.place = x.is_id in
    let r : x.place ≡ id = omega arith in
    subst (λ i. is_live e i ≡ true) r (ap (λ (o : Option (Option Live)). is_some (unwrap_or o None)) x.there)

-- the first of the live buffers
pub first_lives : (k : ℕ) (bs : List (Option Live)) (n : ℕ) (more : List ℕ) → live_from k bs ≡ n ∷ more → (m : ℕ) × (n ≡ k + m) × (is_some (unwrap_or (slice_get bs m) None) ≡ true)
first_lives k [] n more h = cc
first_lives k (None ∷ bs) n more h =
    let x : (m : ℕ) × (n ≡ k + 1 + m) × (is_some (unwrap_or (slice_get bs m) None) ≡ true) = first_lives (k + 1) bs n more h in
    let q : n ≡ k + 1 + x.0 = x.1 in
    (suc x.0, omega arith, x.2)
first_lives k (Some l ∷ bs) n more h = let q : k ≡ n = cc in (0, omega arith, refl)

-- THE CURRENT BUFFER
pub record Here (e : Editor) : Type 0 where
  pub lives : is_live e e.current ≡ true

-- an editor with the same buffers, of which the same is current
same_here : (e new : Editor) → new.buffers ≡ e.buffers → new.current ≡ e.current → Here e → Here new
same_here e new q r h = record { lives = ap (is_live new) r ∙ ap (λ (bs : List (Option Live)). is_some (unwrap_or (slice_get bs e.current) None)) q ∙ h.lives }

renamed_here : (id : ℕ) (name : Name) (e : Editor) → Here e → Here (renamed id name e)
renamed_here id name e h = record { lives = renamed_lives id name e e.current ∙ h.lives }

of_fault : (o : Option Fault) (e new : Editor) (v : Value) → Here e → Here new → Here (applied_of o e new v).editor
of_fault None e new v h k = k
of_fault (Some f) e new v h k = h

there_lives : (e : Editor) (v : Value) → Here e → buffer_there e v ≡ None → is_live e (buffer_of e v) ≡ true
there_lives e (TheBuffer b) h q = refuse_ok BufferKilled (is_live e b) q
there_lives e (Str s) h q =
    let x : (id : ℕ) × (find e (map (λ c. c.0) s) ≡ Some id) = some_of (find e (map (λ c. c.0) s)) (refuse_ok NoSuchBuffer (is_some (find e (map (λ c. c.0) s))) q) in
    subst (λ i. is_live e i ≡ true) (sym (ap (λ (o : Option ℕ). unwrap_or o 0) x.1)) (found_lives e (map (λ c. c.0) s) x.0 x.1)
there_lives e _ h q = h.lives

set_buffer_here : (e : Editor) (v : Value) → Here e → Here (set_buffer e v).editor
set_buffer_here e v h = go (first_fault (must_be_buffer v ∷ buffer_there e v ∷ [])) refl
  where
    go : (o : Option Fault) → first_fault (must_be_buffer v ∷ buffer_there e v ∷ []) ≡ o → Here (applied_of o e (record e { current = buffer_of e v }) (TheBuffer (buffer_of e v))).editor
    go (Some f) q = h
    go None q = record { lives = there_lives e v h (no_fault (buffer_there e v) [] (no_fault (must_be_buffer v) (buffer_there e v ∷ []) q).1).0 }

pub starts_here : (e : Editor) (name : Name) → Here e → Here (with_buffer name e)
starts_here e name h = record { lives = longer_lives name e e.current h.lives }

found_here : (e : Editor) (name : Value) (o : Option ℕ) → Here e → Here (found_or_made e name o).editor
found_here e name None h = of_fault _ e _ _ h (starts_here e (name_of name) h)
found_here e name (Some id) h = h

create_here : (e : Editor) (v : Value) → Here e → Here (get_buffer_create e v).editor
create_here e (TheBuffer b) h = h
create_here e (Str s) h = found_here e (Str s) (find e (name_of (Str s))) h
create_here e _ h = h

copy_here : (e : Editor) (x kind : Value) → Here e → Here (copy_marker e x kind).editor
copy_here e Nil kind h = of_fault _ e _ _ h (same_here e _ refl refl h)
copy_here e (Int i) kind h = of_fault _ e _ _ h (same_here e _ refl refl h)
copy_here e (TheMarker k) kind h = of_fault _ e _ _ h (same_here e _ refl refl h)
copy_here e _ kind h = h

-- a change of a site leaves which buffer is current
pub site_current : (id : ℕ) (f : Site → Site) (e : Editor) → (change_site id f e).current ≡ e.current
site_current id f e = go (live e id)
  where
    go : (o : Option Live) → let new : Editor = elim o [
      | None ↦ e
      | Some l ↦
          let site : Site = f (record { buffer = l.buffer; marks = e.marks }) in
          record e { buffers = slice_set e.buffers id (Some (record l { buffer = site.buffer })); marks = site.marks }
    ] in new.current ≡ e.current
    go None = refl
    go (Some l) = refl

pub site_here : (id : ℕ) (f : Site → Site) (e : Editor) → Here e → Here (change_site id f e)
site_here id f e h = record { lives = ap (is_live (change_site id f e)) (site_current id f e) ∙ site_lives id f e e.current ∙ h.lives }

pub buffer_here : (id : ℕ) (f : Buffer → Buffer) (e : Editor) → Here e → Here (change_buffer id f e)
buffer_here id f e h = site_here id (λ site. record site { buffer = f site.buffer }) e h

protected_lives : (id : ℕ) (on : Bool) (e : Editor) (j : ℕ) → is_live (protected id on e) j ≡ is_live e j
protected_lives id on e j = go (live e id) refl
  where
    go : (o : Option Live) → live e id ≡ o → let new : Editor = elim o [ None ↦ e | Some l ↦ record e { buffers = slice_set e.buffers id (Some (record l { read_only = on })) } ] in is_live new j ≡ is_live e j
    go None q = refl
    go (Some l) q = set_lives e (record e { buffers = slice_set e.buffers id (Some (record l { read_only = on })) }) id l (record l { read_only = on }) q refl j

-- which buffer is current doesn't change as one is made read-only
pub protected_current : (id : ℕ) (on : Bool) (e : Editor) → (protected id on e).current ≡ e.current
protected_current id on e = go (live e id)
  where
    go : (o : Option Live) → let new : Editor = elim o [ None ↦ e | Some l ↦ record e { buffers = slice_set e.buffers id (Some (record l { read_only = on })) } ] in new.current ≡ e.current
    go None = refl
    go (Some l) = refl

protected_here : (id : ℕ) (on : Bool) (e : Editor) → Here e → Here (protected id on e)
protected_here id on e h = record { lives = ap (is_live (protected id on e)) (protected_current id on e) ∙ protected_lives id on e e.current ∙ h.lives }

pub applies_here : (e : Editor) (prim : Prim) (args : List Value) → Here e → Here (apply e prim args).editor
applies_here e SetBuffer args h = set_buffer_here e (arg args 0) h
applies_here e GetBufferCreate args h = create_here e (arg args 0) h
applies_here e GenerateNewBuffer args h = of_fault _ e _ _ h (starts_here e (free_name e.buffers (name_of (arg args 0))) h)
applies_here e RenameBuffer args h = of_fault _ e _ _ h (renamed_here e.current (free_name (others e) (name_of (arg args 0))) e h)
applies_here e SetBufferModifiedP args h = buffer_here e.current (λ b. record b { modified = flag (arg args 0) }) e h
applies_here e SetBufferReadOnly args h = protected_here e.current (flag (arg args 0)) e h
applies_here e GotoChar args h = of_fault _ e _ _ h (buffer_here e.current (point_at (place e (arg args 0))) e h)
applies_here e NarrowToRegion args h = of_fault _ e _ _ h (buffer_here e.current (narrowed (from_of e (arg args 0) (arg args 1)) (to_of e (arg args 0) (arg args 1))) e h)
applies_here e Widen args h = buffer_here e.current widened e h
applies_here e MakeMarker args h = of_fault _ e _ _ h (same_here e _ refl refl h)
applies_here e PointMarker args h = of_fault _ e _ _ h (same_here e _ refl refl h)
applies_here e CopyMarker args h = copy_here e (arg args 0) (arg args 1) h
applies_here e SetMarker args h = of_fault _ e _ _ h (same_here e _ refl refl h)
applies_here e SetMarkerInsertionType args h = of_fault _ e _ _ h (same_here e _ refl refl h)
applies_here e MakeOverlay args h = of_fault _ e _ _ h (same_here e _ refl refl h)
applies_here e OverlayPut args h = of_fault _ e _ _ h (same_here e _ refl refl h)
applies_here e MoveOverlay args h = of_fault _ e _ _ h (same_here e _ refl refl h)
applies_here e DeleteOverlay args h = of_fault _ e _ _ h (same_here e _ refl refl h)
applies_here e UndoBoundary args h = buffer_here e.current (λ b. record b { undo = with_boundary b.undo }) e h
applies_here e UndoStart args h = of_fault _ e _ _ h (buffer_here e.current (λ b. record b { undo = started b.undo }) e h)
applies_here e BufferDisableUndo args h = buffer_here e.current (λ b. record b { undo = disabled b.undo }) e h
applies_here e BufferEnableUndo args h = buffer_here e.current (λ b. record b { undo = enabled b.undo }) e h
applies_here e _ args h = h

marked_here : (mark : Option ℕ) (id at : ℕ) (e : Editor) → Here e → Here (mark_to mark id at e)
marked_here None id at e h = h
marked_here (Some k) id at e h = record { lives = h.lives }

what_here : (e : Editor) (id from to : ℕ) (what : What) → Here e → Here (changed e id from to what)
what_here e id from to (Put piece all point_after widen mark) h = marked_here mark id (from + length piece) (change_site id (put_site id from to piece all point_after widen) e) (site_here id (put_site id from to piece all point_after widen) e h)
what_here e id from to (Props edit) h = buffer_here id (reset edit from to) e h
what_here e id from to (UndoGroups n) h = site_here id (undone_groups id (passed n (buffer_at e id).undo)) e h

pub commits_here : (e : Editor) (c : Change) → Here e → Here (commit e c).editor
commits_here e c h = go (first_fault (commit_tests e c.buffer c.what))
  where
    go : (o : Option Fault) → Here (commit_of o e (changed e c.buffer c.from c.to c.what) c).editor
    go None = what_here e c.buffer c.from c.to c.what h
    go (Some f) = h

pub kills_here : (e : Editor) (id : ℕ) → Here e → Here (killed id e)
kills_here e id h = go (live_from 0 gone.buffers) refl (e.current == id) refl
  where
    gone : Editor
    gone = record e { buffers = slice_set e.buffers id None; marks = leave_buffer id e.marks }

    differs : (e.current == id) ≡ false → e.current ≡ id → ⊥
    differs q r = false≢true (sym q ∙ same r)
      where
        same : e.current ≡ id → (e.current == id) ≡ true
        same r = grind arith

    go : (ids : List ℕ) → live_from 0 gone.buffers ≡ ids → (v : Bool) → (e.current == id) ≡ v → Here (elim ids [
      | [] ↦ record (with_buffer scratch gone) { current = length gone.buffers }
      | n ∷ more ↦ if v then record gone { current = n } else gone
    ])
    go [] q v r = record { lives = lives (with_buffer scratch gone) (length gone.buffers) (new_live scratch) (with_buffer_new scratch gone) }
    go (n ∷ more) q true r =
        let x : (m : ℕ) × (n ≡ 0 + m) × (is_some (unwrap_or (slice_get gone.buffers m) None) ≡ true) = first_lives 0 gone.buffers n more q in
        let s : n ≡ 0 + x.0 = x.1 in
        let t : x.0 ≡ n = omega arith in
        record { lives = subst (λ i. is_live gone i ≡ true) t x.2 }
    go (n ∷ more) q false r = record { lives = ap (λ (o : Option Live). is_some o) (live_set_other e gone id e.current None refl (differs r)) ∙ h.lives }
