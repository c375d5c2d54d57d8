-- A list of undo records doesn't end in a boundary: each change keeps it so, for no two boundaries stand next to each other.
use Rattle.std.proofs.Common.{◌≡◌, ◌⊎◌, inl, inr, ℕ, zero, suc, ◌+◌, ◌<◌, Bool, true, false, List, [], ◌∷◌, ◌++◌, length, refl, ap, sym, ◌∙◌, subst, arith}
use Rattle.std.specs.Prelude.{◌==◌, ◌&&◌, not, ℤ, if◌then◌else◌, Option, Some, None, unwrap_or, slice_get, slice_set}
use Rattle.std.specs.List.{filter_map, enumerate_from}
use Rattle.std.proofs.lemmas.Bool.{cases_eq, cases_order, false≢true}
use Rattle.std.proofs.lemmas.Option.{same_Some, none-some}
use Rattle.text_model.specs.Properties.{Cell, PropEdit, Add, Remove, part, with_sets, edited}
use Rattle.text_model.specs.Undo.{Rec, Boundary, Point, Inserted, Deleted, Prop, First, Moved, Entry, Undo, is_boundary, has_boundary, without_oldest_group, fits, cut, in_front, pushed, pushed_all, with_boundary, started, disabled, enabled, extends, passed, without_pending}
use Rattle.text_model.specs.Commit.{Buffer, Site, recorded, inserted, deleted, deletion_records, adjustment, fresh_group, with_properties, property_records, no_pending, replaced, reset, set_point, undo_one, undo_each, undone_groups, moves_behind}
use Rattle.text_model.specs.Marks.{leave_buffer}
use Rattle.text_model.proofs.Cases.{by_test}
use Rattle.editor_model.specs.Values.{Value, Nil, Int, Str, TheBuffer, TheMarker, Fault, Prim, SetBuffer, GetBufferCreate, GenerateNewBuffer, RenameBuffer, SetBufferModifiedP, SetBufferReadOnly, GotoChar, NarrowToRegion, Widen, MakeMarker, PointMarker, CopyMarker, SetMarker, SetMarkerInsertionType, MakeOverlay, OverlayPut, MoveOverlay, DeleteOverlay, UndoBoundary, UndoStart, BufferDisableUndo, BufferEnableUndo}
use Rattle.editor_model.specs.Editor.{Editor, Name, Live, live, find, live_from, scratch, with_buffer, new_live, renamed, protected, named_as, change_site, change_buffer, killed, free_name, others, buffer_at}
use Rattle.editor_model.specs.Answers.{first_fault, applied_of, What, Put, Props, UndoGroups, Change}
use Rattle.editor_model.specs.Arguments.{arg, flag, name_of, place, from_of, to_of}
use Rattle.editor_model.specs.BufferCalls.{found_or_made, get_buffer_create}
use Rattle.editor_model.specs.MarkerCalls.{copy_marker}
use Rattle.editor_model.specs.Commits.{mark_to, put_site, point_to, first_widened, changed, commit_of, commit_tests}
use Rattle.editor_model.specs.TextCalls.{point_at, narrowed, widened}
use Rattle.editor_model.specs.Table.{apply, commit}
use Rattle.machine_laws.proofs.Stretches.{AreProps, props-records}
use Rattle.machine_laws.proofs.Changes.{AreMoves, moves-append, marker_moves}
use Rattle.machine_laws.proofs.Advancing.{live_within, live_past, live_set_same, live_set_other, with_buffer_old, with_buffer_new, with_buffer_longer}

-- LISTS
abbrev pub Parted : List Entry → Type 0
Parted [] = Unit {0}
Parted (e ∷ []) = is_boundary e.what ≡ false
Parted (e ∷ f ∷ entries) = (is_boundary e.what ≡ true → is_boundary f.what ≡ false) × Parted (f ∷ entries)

parted_tail : (e : Entry) (entries : List Entry) → Parted (e ∷ entries) → Parted entries
parted_tail e [] h = tt
parted_tail e (f ∷ entries) h = h.1

record_first : (e : Entry) (entries : List Entry) → is_boundary e.what ≡ false → Parted entries → Parted (e ∷ entries)
record_first e [] b h = b
record_first e (f ∷ entries) b h = (λ q. absurd (false≢true (sym b ∙ q)), h)

not_boundary : (a b : Bool) → (a ≡ true → b ≡ false) → b ≡ true → a ≡ false
not_boundary true b h q = absurd (false≢true (sym (h refl) ∙ q))
not_boundary false b h q = refl

oldest_gone : (entries : List Entry) → Parted entries → Parted (without_oldest_group entries)
oldest_gone [] h = tt
oldest_gone (e ∷ []) h = tt
oldest_gone (e ∷ f ∷ rest) h = go (is_boundary f.what) refl (has_boundary rest) (oldest_gone (f ∷ rest) h.1)
  where
    go : (b : Bool) → is_boundary f.what ≡ b → (c : Bool) → Parted (if c then f ∷ without_oldest_group rest else []) → Parted (if (if b then true else c) then e ∷ (if c then f ∷ without_oldest_group rest else []) else [])
    go true q true more = (h.0, more)
    go true q false more = not_boundary (is_boundary e.what) (is_boundary f.what) h.0 q
    go false q true more = (h.0, more)
    go false q false more = tt

cut_parted : (turns : ℕ) (entries : List Entry) → Parted entries → Parted (cut turns entries)
cut_parted zero entries h = h
cut_parted (suc turns) entries h = go (fits entries) (cut_parted turns (without_oldest_group entries) (oldest_gone entries h))
  where
    go : (b : Bool) → Parted (cut turns (without_oldest_group entries)) → Parted (elim b [ true ↦ entries | false ↦ cut turns (without_oldest_group entries) ])
    go true more = h
    go false more = more

put_first : (r : Rec) (serial : ℕ) (entries : List Entry) → is_boundary r ≡ false → Parted entries → Parted (in_front r serial entries)
put_first r serial [] b h = b
put_first (Inserted from to) serial (e ∷ entries) b h = go e.what
  where
    new : Entry
    new = record { what = Inserted from to; serial = serial }

    go : (w : Rec) → Parted (elim w [
      | Inserted b p ↦ if p == from then record e { what = Inserted b to } ∷ entries else record { what = Inserted from to; serial = serial } ∷ e ∷ entries
      | _ ↦ record { what = Inserted from to; serial = serial } ∷ e ∷ entries
    ])
    go (Inserted b p) = by_test (λ l. Parted l) (p == from) (record e { what = Inserted b to } ∷ entries) (new ∷ e ∷ entries) (λ q. record_first (record e { what = Inserted b to }) entries refl (parted_tail e entries h)) (λ q. record_first new (e ∷ entries) refl h)
    go _ = record_first new (e ∷ entries) refl h
put_first r serial (e ∷ entries) b h = record_first (record { what = r; serial = serial }) (e ∷ entries) b h

pushed_parted : (r : Rec) (u : Undo) → is_boundary r ≡ false → Parted u.entries → Parted (pushed r u).entries
pushed_parted r u b h = by_test (λ (x : Undo). Parted x.entries) u.on (record u { entries = cut (length u.entries + 1) (in_front r u.next u.entries); next = if extends r u.entries then u.next else u.next + 1 }) u (λ q. cut_parted (length u.entries + 1) (in_front r u.next u.entries) (put_first r u.next u.entries b h)) (λ q. h)

boundary_parted : (u : Undo) → Parted u.entries → Parted (with_boundary u).entries
boundary_parted u h = go u.entries refl
  where
    new : Undo
    new = record u { entries = cut (length u.entries + 1) (in_front Boundary u.next u.entries); next = if extends Boundary u.entries then u.next else u.next + 1 }

    go : (entries : List Entry) → u.entries ≡ entries → let x : Undo = elim entries [ [] ↦ u | e ∷ more ↦ if is_boundary e.what then u else pushed Boundary u ] in Parted x.entries
    go [] q = h
    go (e ∷ more) q = by_test (λ (x : Undo). Parted x.entries) (is_boundary e.what) u (pushed Boundary u) (λ b. h) (λ b.
        by_test (λ (x : Undo). Parted x.entries) u.on new u (λ on. cut_parted (length u.entries + 1) (in_front Boundary u.next u.entries) (subst (λ (l : List Entry). Parted (in_front Boundary u.next l)) (sym q) (λ t. b, subst (λ (l : List Entry). Parted l) q h))) (λ on. h))

-- RECORDS
abbrev AreRecords : List Rec → Type 0
AreRecords [] = Unit {0}
AreRecords (r ∷ rs) = (is_boundary r ≡ false) × AreRecords rs

records-append : (xs ys : List Rec) → AreRecords xs → AreRecords ys → AreRecords (xs ++ ys)
records-append [] ys h k = k
records-append (x ∷ xs) ys h k = (h.0, records-append xs ys h.1 k)

moves_records : (rs : List Rec) → AreMoves rs → AreRecords rs
moves_records [] h = tt
moves_records (Point p ∷ rs) h = (refl, moves_records rs h)
moves_records (Moved m a ∷ rs) h = (refl, moves_records rs h)
moves_records (_ ∷ rs) h = absurd h

props_records : (rs : List Rec) → AreProps rs → AreRecords rs
props_records [] h = tt
props_records (Prop n o a b ∷ rs) h = (refl, props_records rs h.1)
props_records (_ ∷ rs) h = absurd h

all_parted : (rs : List Rec) (u : Undo) → AreRecords rs → Parted u.entries → Parted (pushed_all rs u).entries
all_parted [] u a h = h
all_parted (r ∷ rs) u a h = all_parted rs (pushed r u) a.1 (pushed_parted r u a.0 h)

recorded_parted : (rs : List Rec) (b : Buffer) → AreRecords rs → Parted b.undo.entries → Parted (recorded rs b).entries
recorded_parted rs b a h = by_test (λ (l : List Rec). Parted (pushed_all l b.undo).entries) b.modified rs (First ∷ rs) (λ q. all_parted rs b.undo a h) (λ q. all_parted (First ∷ rs) b.undo (refl, a) h)

-- BUFFERS
abbrev pub Ends : Buffer → Type 0
Ends b = Parted b.undo.entries

inserted_ends : (id at : ℕ) (piece : List Cell) (all advances : Bool) (site : Site) → Ends site.buffer → Ends (inserted id at piece all advances site).buffer
inserted_ends id at piece all advances site h = recorded_parted (Inserted at (at + length piece) ∷ []) site.buffer (refl, tt) h

deleted_ends : (id from to : ℕ) (site : Site) → Ends site.buffer → Ends (deleted id from to site).buffer
deleted_ends id from to site h = recorded_parted (deletion_records id from to site) site.buffer
    (records-append (point ++ markers) (Deleted (part from to site.buffer.text) from ∷ []) (moves_records (point ++ markers) (moves-append point markers pointed (marker_moves id from to (enumerate_from 0 site.marks.markers)))) (refl, tt)) h
  where
    fresh : Bool
    fresh = fresh_group site.buffer.undo.entries && not (site.buffer.point == from)

    point : List Rec
    point = if fresh then Point site.buffer.point ∷ [] else []

    markers : List Rec
    markers = filter_map (adjustment id from to) (enumerate_from 0 site.marks.markers)

    pointed : AreMoves point
    pointed = by_test (λ l. AreMoves l) fresh (Point site.buffer.point ∷ []) [] (λ q. tt) (λ q. tt)

properties_end : (edit : PropEdit) (from to : ℕ) (b : Buffer) → Ends b → Ends (with_properties edit from to b)
properties_end edit from to b h = go (property_records edit from to b.text) (props_records (property_records edit from to b.text) (props-records edit from to b.text))
  where
    go : (rs : List Rec) → AreRecords rs → Ends (elim rs [
      | [] ↦ b
      | r ∷ records ↦ record b { text = with_sets from to (edited edit) b.text; modified = true; undo = recorded (r ∷ records) b }
    ])
    go [] a = h
    go (r ∷ rs) a = recorded_parted (r ∷ rs) b a h

reset_ends : (edit : PropEdit) (from to : ℕ) (b : Buffer) → Ends b → Ends (reset edit from to b)
reset_ends edit from to b h = go (property_records edit from to b.text)
  where
    go : (rs : List Rec) → Ends (elim rs [ [] ↦ b | r ∷ records ↦ let c = with_properties edit from to b in record c { undo = without_pending c.undo } ])
    go [] = h
    go (r ∷ rs) = properties_end edit from to b h

replaced_ends : (id from to : ℕ) (piece : List Cell) (all : Bool) (site : Site) → Ends site.buffer → Ends (replaced id from to piece all site).buffer
replaced_ends id from to [] all site h = by_test (λ (s : Site). Ends s.buffer) (from == to) site (no_pending (deleted id from to site)) (λ q. h) (λ q. deleted_ends id from to site h)
replaced_ends id from to (c ∷ piece) all site h = inserted_ends id from (c ∷ piece) all true site h

pointed_ends : (move : Bool) (p : ℕ) (site : Site) → Ends site.buffer → Ends (point_to move p site).buffer
pointed_ends true p site h = h
pointed_ends false p site h = h

widened_ends : (widen : Bool) (site : Site) → Ends site.buffer → Ends (first_widened widen site).buffer
widened_ends true site h = h
widened_ends false site h = h

put_ends : (id from to : ℕ) (piece : List Cell) (all point_after widen : Bool) (site : Site) → Ends site.buffer → Ends (put_site id from to piece all point_after widen site).buffer
put_ends id from to piece all point_after widen site h =
    pointed_ends point_after (from + length piece) (replaced id from to piece all (first_widened widen site)) (replaced_ends id from to piece all (first_widened widen site) (widened_ends widen site h))

one_ends : (id : ℕ) (r : Rec) (behind : List (ℕ × ℤ)) (site : Site) → Ends site.buffer → Ends (undo_one id r behind site).buffer
one_ends id (Inserted from to) behind site h = deleted_ends id from to (set_point from site) h
one_ends id (Deleted piece place) behind site h = inserted_ends id place piece false false (set_point place site) h
one_ends id (Prop name (Some old) from to) behind site h = properties_end (Add ((name, old) ∷ []) []) from to site.buffer h
one_ends id (Prop name None from to) behind site h = properties_end (Remove (name ∷ [])) from to site.buffer h
one_ends id (Point place) behind site h = h
one_ends id First behind site h = h
one_ends id Boundary behind site h = h
one_ends id (Moved marker adjustment) behind site h = h

each_ends : (id : ℕ) (entries : List Entry) (site : Site) → Ends site.buffer → Ends (undo_each id entries site).buffer
each_ends id [] site h = h
each_ends id (e ∷ entries) site h = each_ends id entries (undo_one id e.what (moves_behind entries) site) (one_ends id e.what (moves_behind entries) site h)

groups_end : (id : ℕ) (entries : List Entry) (site : Site) → Ends site.buffer → Ends (undone_groups id entries site).buffer
groups_end id entries site h = each_ends id entries _ h

-- EDITORS
pub record AllEnd (e : Editor) : Type 0 where
  pub each : (id : ℕ) (l : Live) → live e id ≡ Some l → Ends l.buffer

-- one buffer changed, and the others left
set_end : (e new : Editor) (id : ℕ) (l n : Live) → live e id ≡ Some l → new.buffers ≡ slice_set e.buffers id (Some n) → Ends n.buffer → AllEnd e → AllEnd new
set_end e new id l n h q k a = record { each = λ j m r. go j m r (cases_eq j id) }
  where
    go : (j : ℕ) (m : Live) → live new j ≡ Some m → (j ≡ id) ⊎ (j ≡ id → ⊥) → Ends m.buffer
    go j m r (inl s) = let t : n ≡ m = same_Some n m (sym (live_set_same e new id (Some n) (Some l) q (live_within e id l h)) ∙ ap (live new) (sym s) ∙ r) in subst (λ (x : Live). Ends x.buffer) t k
    go j m r (inr d) = a.each j m (sym (live_set_other e new id j (Some n) q d) ∙ r)

site_end : (id : ℕ) (f : Site → Site) (e : Editor) → ((site : Site) → Ends site.buffer → Ends (f site).buffer) → AllEnd e → AllEnd (change_site id f e)
site_end id f e k a = go (live e id) refl
  where
    go : (o : Option Live) → live e id ≡ o → AllEnd (elim o [
      | None ↦ e
      | Some l ↦
          let site : Site = f (record { buffer = l.buffer; marks = e.marks }) in
          record e { buffers = slice_set e.buffers id (Some (record l { buffer = site.buffer })); marks = site.marks }
    ])
    go None q = a
    go (Some l) q =
        let site : Site = f (record { buffer = l.buffer; marks = e.marks }) in
        set_end e (record e { buffers = slice_set e.buffers id (Some (record l { buffer = site.buffer })); marks = site.marks }) id l (record l { buffer = site.buffer }) q refl (k (record { buffer = l.buffer; marks = e.marks }) (a.each id l q)) a

pub buffer_end : (id : ℕ) (f : Buffer → Buffer) (e : Editor) → ((b : Buffer) → Ends b → Ends (f b)) → AllEnd e → AllEnd (change_buffer id f e)
buffer_end id f e k a = site_end id (λ site. record site { buffer = f site.buffer }) e (λ site h. k site.buffer h) a

protected_end : (id : ℕ) (on : Bool) (e : Editor) → AllEnd e → AllEnd (protected id on e)
protected_end id on e a = go (live e id) refl
  where
    go : (o : Option Live) → live e id ≡ o → AllEnd (elim o [ None ↦ e | Some l ↦ record e { buffers = slice_set e.buffers id (Some (record l { read_only = on })) } ])
    go None q = a
    go (Some l) q = set_end e (record e { buffers = slice_set e.buffers id (Some (record l { read_only = on })) }) id l (record l { read_only = on }) q refl (a.each id l q) a

none_end : (e new : Editor) (id : ℕ) → new.buffers ≡ slice_set e.buffers id None → AllEnd e → AllEnd new
none_end e new id q a = record { each = λ j m r. go j m r (cases_eq j id) }
  where
    here : (o : Option (Option Live)) → slice_get e.buffers id ≡ o → live new id ≡ None
    here None k = ap (λ (bs : List (Option Live)). unwrap_or (slice_get bs id) None) q ∙ ap (λ (o : Option (Option Live)). unwrap_or o None) (unset e.buffers id k)
      where
        unset : (xs : List (Option Live)) (i : ℕ) → slice_get xs i ≡ None → slice_get (slice_set xs i None) i ≡ None
        unset [] i k = refl
        unset (x ∷ xs) zero k = cc
        unset (x ∷ xs) (suc i) k = unset xs i k
    here (Some old) k = live_set_same e new id None old q k

    go : (j : ℕ) (m : Live) → live new j ≡ Some m → (j ≡ id) ⊎ (j ≡ id → ⊥) → Ends m.buffer
    go j m r (inl s) = absurd (none-some m (sym (here (slice_get e.buffers id) refl) ∙ ap (live new) (sym s) ∙ r))
    go j m r (inr d) = a.each j m (sym (live_set_other e new id j None q d) ∙ r)

pub made_end : (name : Name) (e : Editor) → AllEnd e → AllEnd (with_buffer name e)
made_end name e a = record { each = λ id l h. go id l h (cases_order id (length e.buffers)) }
  where
    go : (id : ℕ) (l : Live) → live (with_buffer name e) id ≡ Some l → (id ≡ length e.buffers) ⊎ ((id < length e.buffers) ⊎ (length e.buffers < id)) → Ends l.buffer
    go id l h (inl q) = let x : new_live name ≡ l = same_Some _ l (sym (with_buffer_new name e) ∙ ap (live (with_buffer name e)) (sym q) ∙ h) in subst (λ (y : Live). Ends y.buffer) x tt
    go id l h (inr (inl q)) = a.each id l (sym (with_buffer_old name e id q) ∙ h)
    go id l h (inr (inr q)) = let x : length (with_buffer name e).buffers ≡ length e.buffers + 1 = with_buffer_longer name e in absurd (none-some l (sym (live_past (with_buffer name e) id (omega arith)) ∙ h))

renamed_end : (id : ℕ) (name : Name) (e : Editor) → AllEnd e → AllEnd (renamed id name e)
renamed_end id name e a = go (live e id) refl
  where
    go : (o : Option Live) → live e id ≡ o → AllEnd (record e { buffers = slice_set e.buffers id (named_as name o) })
    go None q = none_end e (record e { buffers = slice_set e.buffers id None }) id refl a
    go (Some l) q = set_end e (record e { buffers = slice_set e.buffers id (Some (record l { name = name })) }) id l (record l { name = name }) q refl (a.each id l q) a

-- an editor with the same buffers
pub same_end : (e new : Editor) → new.buffers ≡ e.buffers → AllEnd e → AllEnd new
same_end e new q a = record { each = λ id l h. a.each id l (sym (ap (λ (bs : List (Option Live)). unwrap_or (slice_get bs id) None) q) ∙ h) }

pub kills_end : (e : Editor) (id : ℕ) → AllEnd e → AllEnd (killed id e)
kills_end e id a = go (live_from 0 gone.buffers) (e.current == id)
  where
    gone : Editor
    gone = record e { buffers = slice_set e.buffers id None; marks = leave_buffer id e.marks }

    g : AllEnd gone
    g = none_end e gone id refl a

    go : (ids : List ℕ) (v : Bool) → AllEnd (elim ids [
      | [] ↦ record (with_buffer scratch gone) { current = length gone.buffers }
      | n ∷ more ↦ if v then record gone { current = n } else gone
    ])
    go [] v = same_end (with_buffer scratch gone) (record (with_buffer scratch gone) { current = length gone.buffers }) refl (made_end scratch gone g)
    go (n ∷ more) v = by_test (λ (x : Editor). AllEnd x) v (record gone { current = n }) gone (λ q. same_end gone (record gone { current = n }) refl g) (λ q. g)

-- CALLS AND COMMITS
of_fault : (o : Option Fault) (e new : Editor) (v : Value) → AllEnd e → AllEnd new → AllEnd (applied_of o e new v).editor
of_fault None e new v h k = k
of_fault (Some f) e new v h k = h

found_end : (e : Editor) (name : Value) (o : Option ℕ) → AllEnd e → AllEnd (found_or_made e name o).editor
found_end e name None a = of_fault _ e _ _ a (made_end (name_of name) e a)
found_end e name (Some id) a = a

create_end : (e : Editor) (v : Value) → AllEnd e → AllEnd (get_buffer_create e v).editor
create_end e (TheBuffer b) a = a
create_end e (Str s) a = found_end e (Str s) (find e (name_of (Str s))) a
create_end e _ a = a

copy_end : (e : Editor) (x kind : Value) → AllEnd e → AllEnd (copy_marker e x kind).editor
copy_end e Nil kind a = of_fault _ e _ _ a (same_end e _ refl a)
copy_end e (Int i) kind a = of_fault _ e _ _ a (same_end e _ refl a)
copy_end e (TheMarker k) kind a = of_fault _ e _ _ a (same_end e _ refl a)
copy_end e _ kind a = a

pub applies_end : (e : Editor) (prim : Prim) (args : List Value) → AllEnd e → AllEnd (apply e prim args).editor
applies_end e SetBuffer args a = of_fault _ e _ _ a (same_end e _ refl a)
applies_end e GetBufferCreate args a = create_end e (arg args 0) a
applies_end e GenerateNewBuffer args a = of_fault _ e _ _ a (made_end (free_name e.buffers (name_of (arg args 0))) e a)
applies_end e RenameBuffer args a = of_fault _ e _ _ a (renamed_end e.current (free_name (others e) (name_of (arg args 0))) e a)
applies_end e SetBufferModifiedP args a = buffer_end e.current (λ b. record b { modified = flag (arg args 0) }) e (λ b h. h) a
applies_end e SetBufferReadOnly args a = protected_end e.current (flag (arg args 0)) e a
applies_end e GotoChar args a = of_fault _ e _ _ a (buffer_end e.current (point_at (place e (arg args 0))) e (λ b h. h) a)
applies_end e NarrowToRegion args a = of_fault _ e _ _ a (buffer_end e.current (narrowed (from_of e (arg args 0) (arg args 1)) (to_of e (arg args 0) (arg args 1))) e (λ b h. h) a)
applies_end e Widen args a = buffer_end e.current widened e (λ b h. h) a
applies_end e MakeMarker args a = of_fault _ e _ _ a (same_end e _ refl a)
applies_end e PointMarker args a = of_fault _ e _ _ a (same_end e _ refl a)
applies_end e CopyMarker args a = copy_end e (arg args 0) (arg args 1) a
applies_end e SetMarker args a = of_fault _ e _ _ a (same_end e _ refl a)
applies_end e SetMarkerInsertionType args a = of_fault _ e _ _ a (same_end e _ refl a)
applies_end e MakeOverlay args a = of_fault _ e _ _ a (same_end e _ refl a)
applies_end e OverlayPut args a = of_fault _ e _ _ a (same_end e _ refl a)
applies_end e MoveOverlay args a = of_fault _ e _ _ a (same_end e _ refl a)
applies_end e DeleteOverlay args a = of_fault _ e _ _ a (same_end e _ refl a)
applies_end e UndoBoundary args a = buffer_end e.current (λ b. record b { undo = with_boundary b.undo }) e (λ b h. boundary_parted b.undo h) a
applies_end e UndoStart args a = of_fault _ e _ _ a (buffer_end e.current (λ b. record b { undo = started b.undo }) e (λ b h. h) a)
applies_end e BufferDisableUndo args a = buffer_end e.current (λ b. record b { undo = disabled b.undo }) e (λ b h. tt) a
applies_end e BufferEnableUndo args a = buffer_end e.current (λ b. record b { undo = enabled b.undo }) e (λ b h. h) a
applies_end e _ args a = a

marked_end : (mark : Option ℕ) (id at : ℕ) (e : Editor) → AllEnd e → AllEnd (mark_to mark id at e)
marked_end None id at e a = a
marked_end (Some k) id at e a = same_end e (mark_to (Some k) id at e) refl a

what_ends : (e : Editor) (id from to : ℕ) (what : What) → AllEnd e → AllEnd (changed e id from to what)
what_ends e id from to (Put piece all point_after widen mark) a = marked_end mark id (from + length piece) (change_site id (put_site id from to piece all point_after widen) e) (site_end id (put_site id from to piece all point_after widen) e (λ site h. put_ends id from to piece all point_after widen site h) a)
what_ends e id from to (Props edit) a = buffer_end id (reset edit from to) e (λ b h. reset_ends edit from to b h) a
what_ends e id from to (UndoGroups n) a = site_end id (undone_groups id (passed n (buffer_at e id).undo)) e (λ site h. groups_end id (passed n (buffer_at e id).undo) site h) a

pub commits_end : (e : Editor) (c : Change) → AllEnd e → AllEnd (commit e c).editor
commits_end e c a = go (first_fault (commit_tests e c.buffer c.what))
  where
    go : (o : Option Fault) → AllEnd (commit_of o e (changed e c.buffer c.from c.to c.what) c).editor
    go None = what_ends e c.buffer c.from c.to c.what a
    go (Some f) = a
