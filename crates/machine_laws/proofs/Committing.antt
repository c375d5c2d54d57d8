-- A change that was prepared, and its commit.
use Rattle.std.proofs.Common.{◌≡◌, ℕ, zero, suc, ◌+◌, ◌-◌, ◌≤◌, Bool, true, false, List, [], ◌∷◌, ◌++◌, length, drop, refl, ap, sym, subst, ◌∙◌, arith}
use Rattle.std.specs.Prelude.{if◌then◌else◌, ◌==◌, ◌&&◌, not, nat_lt, nat_le, slice_get, filter, Option, Some, None, is_some, option_map, min, max}
use Rattle.std.proofs.lemmas.Bool.{eqb-true, false≢true}
use Rattle.std.proofs.lemmas.Option.{same_Some}
use Rattle.text_model.specs.Properties.{Cell, PropSet, PropVal, PropEdit, Add, Remove, Replace, part, splice}
use Rattle.text_model.specs.Ordered.{Rising, IsOrdered, AreOrdered, GivesOrdered}
use Rattle.text_model.specs.Marks.{Spot}
use Rattle.text_model.specs.Sticky.{offered_by_before, offered_by_after}
use Rattle.text_model.specs.Undo.{Rec, Entry, trial, undone, passed}
use Rattle.text_model.specs.Commit.{Buffer, Site, replaced, reset, undone_groups, property_records}
use Rattle.machine_laws.specs.Fits.{SpotFits, MarksFit, GoodSite}
use Rattle.text_model.proofs.Sets.{ordered-put, ordered-put_all, rising_less}
use Rattle.text_model.proofs.Cases.{by_test}
use Rattle.machine_laws.proofs.Changes.{ordered-part, length-splice}
use Rattle.machine_laws.proofs.OneBuffer.{passes_same, passes_from, passes_like}
use Rattle.machine_laws.proofs.Fitting.{fitting_then}
use Rattle.machine_laws.proofs.Sites.{SiteStep, site_after, site_stays, same_step, replaced_step, reset_step, groups_step}
use Rattle.editor_model.specs.Values.{Value, Nil, T, Str, Fault, Pairs, Prim, Insert, InsertAndInherit, InsertBeforeMarkers, InsertBeforeMarkersAndInherit, InsertBufferSubstring, DeleteRegion, DeleteAndExtractRegion, EraseBuffer, PutTextProperty, AddTextProperties, RemoveTextProperties, SetTextProperties, UndoMore}
use Rattle.editor_model.specs.Editor.{Editor, Live, live, is_live, buffer_at, here, change_site, set_marker_spot, marker_of}
use Rattle.editor_model.specs.Answers.{Test, refuse, first_fault, What, Put, Props, UndoGroups, Change, Prepared, Changes, Quiet, Nothing, prepared, prepared_of}
use Rattle.editor_model.specs.TextCalls.{must_give_region, char_at, inherited_at, with_inherited, inserted_piece, insertion, joined, insert, insert_buffer_substring, place_in, prepare_output, deletion, region_deletion, region_text, must_be_a_region, erase_buffer, widened, point_at}
use Rattle.editor_model.specs.Arguments.{arg, buffer_of, place_or, from_of, to_of, symbol_of, value_of, pairs, count_of, must_have_room, must_be_accessible, must_fit_a_string}
use Rattle.editor_model.specs.PropertyCalls.{must_take_properties, changed_by, property_tests, list_tests, change_of, property_change, put_edit, put_text_property, set_of_pairs, nil_names, names_of_pairs}
use Rattle.editor_model.specs.UndoCalls.{undo_change, undo_more, undo_tests}
use Rattle.editor_model.specs.Commits.{commit_tests, first_widened, point_to, put_site, mark_to, changed, commit_of, commit}
use Rattle.editor_model.specs.Table.{prepare}
use Rattle.machine_laws.proofs.GoodEditor.{GoodEditor, Steady, FineWhat, FineChange}
use Rattle.machine_laws.proofs.Advancing.{site_live, size_after, site_advances, site_shapes, buffer_live, size_of}
use Rattle.machine_laws.proofs.Applying.{steady_self, lies, clip_lies, widened_bounds, region_order, region_high, marker_of_fits, change_marker_steady}
use Rattle.machine_laws.proofs.Tests.{refuse_ok, no_fault}

-- PIECES IN ORDER
pub inherited_pieces : (set : PropSet) (piece : List Cell) → IsOrdered set → AreOrdered (with_inherited set piece)
inherited_pieces set [] h = tt
inherited_pieces set (c ∷ piece) h = (ordered-put_all set c.1 h, inherited_pieces set piece h)

rising-filter : (low : ℕ) (p : ℕ × PropVal → Bool) (set : PropSet) → Rising low set → Rising low (filter p set)
rising-filter low p [] r = tt
rising-filter low p (q ∷ set) r = by_test (λ s. Rising low s) (p q) (q ∷ filter p set) (filter p set)
    (λ h. (r.0, rising-filter (q.0 + 1) p set r.1))
    (λ h. rising_less low (q.0 + 1) (filter p set) (omega arith) (rising-filter (q.0 + 1) p set r.1))

abbrev OrderedIfAny : Option PropSet → Type 0
OrderedIfAny None = Unit {0}
OrderedIfAny (Some set) = IsOrdered set

after_ordered : (o : Option PropSet) → OrderedIfAny o → IsOrdered (offered_by_after o)
after_ordered None h = tt
after_ordered (Some set) h = rising-filter 0 _ set h

ordered_cell : (text : List Cell) (k : ℕ) → AreOrdered text → OrderedIfAny (option_map (λ c. c.1) (slice_get text k))
ordered_cell [] k h = tt
ordered_cell (c ∷ text) zero h = h.0
ordered_cell (c ∷ text) (suc k) h = ordered_cell text k h.1

ordered_char : (b : Buffer) (p : ℕ) → AreOrdered b.text → OrderedIfAny (option_map (λ c. c.1) (char_at b p))
ordered_char b p h = by_test (λ o. OrderedIfAny (option_map (λ c. c.1) o)) (nat_le b.begin p && nat_lt p b.end) (slice_get b.text p) None (λ q. ordered_cell b.text p h) (λ q. tt)

inherited_ordered : (b : Buffer) (p : ℕ) → AreOrdered b.text → IsOrdered (inherited_at b p)
inherited_ordered b p h = ordered-put_all (offered_by_after (option_map (λ c. c.1) (char_at b p))) (offered_by_before (option_map (λ c. c.1) (if p == 0 then None else char_at b (p - 1)))) (after_ordered (option_map (λ c. c.1) (char_at b p)) (ordered_char b p h))

piece_ordered : (e : Editor) (inherit : Bool) (piece : List Cell) → GoodEditor e → AreOrdered (inserted_piece e inherit piece)
piece_ordered e inherit piece g = inherited_pieces _ piece (by_test (λ s. IsOrdered s) inherit (inherited_at (here e) (here e).point) [] (λ h. inherited_ordered (here e) (here e).point (lies e e.current g).ordered) (λ h. tt))

-- PREPARED
abbrev FineIfChange : Editor → Prepared → Type 0
FineIfChange e (Changes c) = FineChange e c
FineIfChange e (Quiet c) = FineChange e c
FineIfChange e _ = Unit {0}

pub record FinePrepared (e : Editor) (p : Prepared) : Type 0 where
  pub fine : FineIfChange e p

fine_of : (o : Option Fault) (e : Editor) (p : Prepared) → FinePrepared e p → FinePrepared e (prepared_of o p)
fine_of None e p h = h
fine_of (Some f) e p h = record { fine = tt }

fine_if : (tests : List Test) (e : Editor) (p : Prepared) → (first_fault tests ≡ None → FinePrepared e p) → FinePrepared e (prepared tests p)
fine_if tests e p h = go (first_fault tests) refl
  where
    go : (o : Option Fault) → first_fault tests ≡ o → FinePrepared e (prepared_of o p)
    go None q = h q
    go (Some f) q = record { fine = tt }

insertion_fine : (e : Editor) (id at : ℕ) (piece : List Cell) (all : Bool) → AreOrdered piece → at ≤ size_of e id → FinePrepared e (insertion id at piece all)
insertion_fine e id at [] all h k = record { fine = tt }
insertion_fine e id at (c ∷ piece) all h k = record { fine = record { what = h; order = omega arith; fits = k } }

insert_fine : (e : Editor) (all inherit : Bool) (args : List Value) → GoodEditor e → FinePrepared e (insert e all inherit args)
insert_fine e all inherit args g = fine_of _ e _ (insertion_fine e e.current (here e).point (inserted_piece e inherit (joined args)) all (piece_ordered e inherit (joined args) g) (lies e e.current g).point)

substring_fine : (e : Editor) (buffer a b : Value) → GoodEditor e → FinePrepared e (insert_buffer_substring e buffer a b)
substring_fine e buffer a b g =
    let source : Buffer = buffer_at e (buffer_of e buffer) in
    let from : ℕ = min (place_or source.begin e a) (place_or source.end e b) in
    let to : ℕ = max (place_or source.begin e a) (place_or source.end e b) in
    fine_of _ e (insertion e.current (here e).point (part from to source.text) false) (insertion_fine e e.current (here e).point (part from to source.text) false (ordered-part from to source.text (lies e (buffer_of e buffer) g).ordered) (lies e e.current g).point)

-- the markers and kept places in a live buffer
pub marks_at : (e : Editor) (id : ℕ) (l : Live) → GoodEditor e → live e id ≡ Some l → MarksFit id (size_of e id) e.marks
marks_at e id l g h = let size : size_of e id ≡ length l.buffer.text = ap (λ b. length b.text) (buffer_live e id l h) in subst (λ n. MarksFit id n e.marks) (sym size) (g.each id l h).fits.marks_fit

pub some_of : {A : Type 0} (o : Option A) → is_some o ≡ true → (x : A) × (o ≡ Some x)
some_of None h = cc
some_of (Some x) h = (x, refl)

pub place_lies : (e : Editor) (id mark : ℕ) → GoodEditor e → is_live e id ≡ true → place_in id (buffer_at e id) (marker_of e mark).spot ≤ size_of e id
place_lies e id mark g h =
    let l : (l : Live) × (live e id ≡ Some l) = some_of (live e id) h in
    go (marker_of e mark).spot (marker_of_fits e mark id (marks_at e id l.0 g l.1))
  where
    go : (o : Option Spot) → SpotFits id (size_of e id) o → place_in id (buffer_at e id) o ≤ size_of e id
    go None k = (lies e id g).end
    go (Some s) k = place (s.buffer == id) refl
      where
        place : (v : Bool) → (s.buffer == id) ≡ v → (if v then s.place else (buffer_at e id).end) ≤ size_of e id
        place true q = k q
        place false q = (lies e id g).end

pub output_fine : (e : Editor) (id mark : ℕ) (text : List Cell) → GoodEditor e → is_live e id ≡ true → AreOrdered text → FinePrepared e (prepare_output e id mark text)
output_fine e id mark text g l h =
    let at : ℕ = place_in id (buffer_at e id) (marker_of e mark).spot in
    let c : Change = record { buffer = id; from = at; to = at; what = Put text true false false (Some mark); reply = Nil } in
    fine_of _ e (Changes c) (record { fine = record { what = h; order = omega arith; fits = place_lies e id mark g l } })

-- DELETIONS AND PROPERTIES
deletion_fine : (e : Editor) (id from to : ℕ) (widen : Bool) (reply : Value) → from ≤ to → to ≤ size_of e id → FinePrepared e (deletion id from to widen reply)
deletion_fine e id from to widen reply h k = by_test (λ p. FinePrepared e p) (from == to) (Nothing reply) (Changes (record { buffer = id; from = from; to = to; what = Put [] false false widen None; reply = reply }))
    (λ q. record { fine = tt }) (λ q. record { fine = record { what = tt; order = h; fits = k } })

-- a region whose ends are accessible
accessible_fits : (e : Editor) (a b : Value) (limits : List Test) → GoodEditor e → first_fault (must_be_accessible (here e) e a ∷ must_be_accessible (here e) e b ∷ limits) ≡ None → to_of e a b ≤ size_of e e.current
accessible_fits e a b limits g h =
    let x : (must_be_accessible (here e) e a ≡ None) × (first_fault (must_be_accessible (here e) e b ∷ limits) ≡ None) = no_fault (must_be_accessible (here e) e a) (must_be_accessible (here e) e b ∷ limits) h in
    let y : (must_be_accessible (here e) e b ≡ None) × (first_fault limits ≡ None) = no_fault (must_be_accessible (here e) e b) limits x.1 in
    let z : to_of e a b ≤ (here e).end = region_high e a b (here e).begin (here e).end (refuse_ok _ _ x.0) (refuse_ok _ _ y.0) in
    let w : (here e).end ≤ size_of e e.current = (lies e e.current g).end in
    omega arith

-- without the tests in front
drop_fault : (n : ℕ) (ts : List Test) → first_fault ts ≡ None → first_fault (drop n ts) ≡ None
drop_fault zero ts h = h
drop_fault (suc n) [] h = refl
drop_fault (suc n) (t ∷ ts) h = drop_fault n ts (no_fault t ts h).1

region_fine : (e : Editor) (a b : Value) (limits : List Test) (reply : Value) → GoodEditor e → FinePrepared e (prepared (must_be_a_region e a b limits) (region_deletion e a b reply))
region_fine e a b limits reply g = fine_if (must_be_a_region e a b limits) e (region_deletion e a b reply) (λ h.
    deletion_fine e e.current (from_of e a b) (to_of e a b) false reply (region_order e a b) (accessible_fits e a b limits g (drop_fault 2 (must_be_a_region e a b limits) h)))

erase_fine : (e : Editor) → GoodEditor e → FinePrepared e (erase_buffer e)
erase_fine e g = fine_of _ e (deletion e.current 0 (length (here e).text) true Nil) (deletion_fine e e.current 0 (length (here e).text) true Nil (omega arith) (omega arith))

change_of_fine : (rs : List Rec) (e : Editor) (c : Change) (v : Value) → FineChange e c → FinePrepared e (change_of rs c v)
change_of_fine [] e c v h = record { fine = tt }
change_of_fine (r ∷ rs) e c v h = record { fine = h }

property_fine : (e : Editor) (a b : Value) (edit : PropEdit) (reply : Value) → GivesOrdered edit → to_of e a b ≤ size_of e e.current → FinePrepared e (property_change e a b edit reply)
property_fine e a b edit reply h k = change_of_fine (property_records edit (from_of e a b) (to_of e a b) (here e).text) e (record { buffer = e.current; from = from_of e a b; to = to_of e a b; what = Props edit; reply = reply }) Nil (record { what = h; order = region_order e a b; fits = k })

put_edit_ordered : (name : ℕ) (o : Option PropVal) → GivesOrdered (put_edit name o)
put_edit_ordered name None = tt
put_edit_ordered name (Some v) = tt

pairs_ordered : (ps : Pairs) → IsOrdered (set_of_pairs ps)
pairs_ordered [] = tt
pairs_ordered (p ∷ ps) = ordered-put (set_of_pairs ps) p.0 p.1 (pairs_ordered ps)

put_fine : (e : Editor) (a b name v : Value) → GoodEditor e → FinePrepared e (put_text_property e a b name v)
put_fine e a b name v g =
    let edit : PropEdit = put_edit (symbol_of name) (value_of v) in
    let last : List Test = must_take_properties e a b edit ∷ [] in
    fine_if (property_tests e a b name v ++ last) e (property_change e a b edit Nil)
    (λ h. property_fine e a b edit Nil (put_edit_ordered (symbol_of name) (value_of v)) (accessible_fits e a b last g (drop_fault 4 (property_tests e a b name v ++ last) h)))

list_fine : (e : Editor) (a b properties : Value) (edit : PropEdit) → GoodEditor e → GivesOrdered edit → FinePrepared e (changed_by e a b properties edit)
list_fine e a b properties edit g o =
    let last : List Test = must_take_properties e a b edit ∷ [] in
    fine_if (list_tests e a b properties ++ last) e (property_change e a b edit T) (λ h. property_fine e a b edit T o (accessible_fits e a b last g (drop_fault 3 (list_tests e a b properties ++ last) h)))

-- UNDOING
undo_change_fine : (es : List Entry) (e : Editor) (c : Change) → FineChange e c → FinePrepared e (undo_change es c)
undo_change_fine [] e c h = record { fine = h }
undo_change_fine (r ∷ es) e c h = record { fine = h }

undo_fine : (e : Editor) (v : Value) → GoodEditor e → FinePrepared e (undo_more e v)
undo_fine e v g =
    let n : ℕ = count_of v in
    let c : Change = record { buffer = e.current; from = (here e).begin; to = (here e).end; what = UndoGroups n; reply = Nil } in
    fine_of _ e (undo_change (undone n (here e).undo) c) (undo_change_fine (undone n (here e).undo) e c (record { what = tt; order = (lies e e.current g).order; fits = (lies e e.current g).end }))

-- what every call that changes a text prepares
pub prepare_fine : (e : Editor) (prim : Prim) (args : List Value) → GoodEditor e → FinePrepared e (prepare e prim args)
prepare_fine e Insert args g = insert_fine e false false args g
prepare_fine e InsertAndInherit args g = insert_fine e false true args g
prepare_fine e InsertBeforeMarkers args g = insert_fine e true false args g
prepare_fine e InsertBeforeMarkersAndInherit args g = insert_fine e true true args g
prepare_fine e InsertBufferSubstring args g = substring_fine e (arg args 0) (arg args 1) (arg args 2) g
prepare_fine e DeleteRegion args g = region_fine e (arg args 0) (arg args 1) (must_give_region e (arg args 0) (arg args 1) ∷ []) Nil g
prepare_fine e DeleteAndExtractRegion args g = region_fine e (arg args 0) (arg args 1) (must_give_region e (arg args 0) (arg args 1) ∷ must_fit_a_string (to_of e (arg args 0) (arg args 1) - from_of e (arg args 0) (arg args 1)) ∷ []) (Str (region_text e (arg args 0) (arg args 1))) g
prepare_fine e EraseBuffer args g = erase_fine e g
prepare_fine e PutTextProperty args g = put_fine e (arg args 0) (arg args 1) (arg args 2) (arg args 3) g
prepare_fine e AddTextProperties args g = list_fine e (arg args 0) (arg args 1) (arg args 2) (Add (set_of_pairs (pairs (arg args 2))) (nil_names (pairs (arg args 2)))) g tt
prepare_fine e RemoveTextProperties args g = list_fine e (arg args 0) (arg args 1) (arg args 2) (Remove (names_of_pairs (pairs (arg args 2)))) g tt
prepare_fine e SetTextProperties args g = list_fine e (arg args 0) (arg args 1) (arg args 2) (Replace (set_of_pairs (pairs (arg args 2)))) g (pairs_ordered (pairs (arg args 2)))
prepare_fine e UndoMore args g = undo_fine e (arg args 0) g
prepare_fine e _ args g = record { fine = tt }

-- COMMITS
widened_step : (id : ℕ) (widen : Bool) (site : Site) → GoodSite id site → SiteStep id site (first_widened widen site)
widened_step id true site g = same_step id site (widened site.buffer) g refl (passes_same site.buffer (widened site.buffer) g.good refl refl) (widened_bounds id site g)
widened_step id false site g = site_stays id site g

widened_text : (widen : Bool) (site : Site) → (first_widened widen site).buffer.text ≡ site.buffer.text
widened_text true site = refl
widened_text false site = refl

widened_undo : (widen : Bool) (site : Site) → (first_widened widen site).buffer.undo ≡ site.buffer.undo
widened_undo true site = refl
widened_undo false site = refl

pointed_step : (id : ℕ) (move : Bool) (p : ℕ) (site : Site) → GoodSite id site → SiteStep id site (point_to move p site)
pointed_step id true p site g = same_step id site (point_at p site.buffer) g refl (passes_same site.buffer (point_at p site.buffer) g.good refl refl) (clip_lies site.buffer.begin site.buffer.end p (length site.buffer.text) g.fits.begin_fits g.fits.end_fits)
pointed_step id false p site g = site_stays id site g

pointed_text : (move : Bool) (p : ℕ) (site : Site) → (point_to move p site).buffer.text ≡ site.buffer.text
pointed_text true p site = refl
pointed_text false p site = refl

pointed_undo : (move : Bool) (p : ℕ) (site : Site) → (point_to move p site).buffer.undo ≡ site.buffer.undo
pointed_undo true p site = refl
pointed_undo false p site = refl

-- a piece put in or a part taken out, with point behind it and the buffer widened first
put_step : (id from to : ℕ) (piece : List Cell) (all point_after widen : Bool) (site : Site) → from ≤ to → to ≤ length site.buffer.text → AreOrdered piece → GoodSite id site → SiteStep id site (put_site id from to piece all point_after widen site)
put_step id from to piece all point_after widen site h k p g =
    let wide : Site = first_widened widen site in
    let new : Site = replaced id from to piece all wide in
    let a : SiteStep id site wide = widened_step id widen site g in
    let b : SiteStep id wide new = replaced_step id from to piece all wide h (rw widened_text k) p (site_after id site wide a) in
    let c : SiteStep id new (point_to point_after (from + length piece) new) = pointed_step id point_after (from + length piece) new (site_after id wide new b) in
    record {
      passes = passes_from site.buffer wide.buffer (point_to point_after (from + length piece) new).buffer (sym (widened_text widen site)) (sym (widened_undo widen site))
          (passes_like wide.buffer new.buffer (point_to point_after (from + length piece) new).buffer b.passes (pointed_text point_after (from + length piece) new) (pointed_undo point_after (from + length piece) new));
      fitting = fitting_then id site new (point_to point_after (from + length piece) new) (fitting_then id site wide new a.fitting b.fitting) c.fitting;
    }

replaced_place : (id from to : ℕ) (piece : List Cell) (all : Bool) (site : Site) → from ≤ to → to ≤ length site.buffer.text → from + length piece ≤ length (replaced id from to piece all site).buffer.text
replaced_place id from to [] all site h k = by_test (λ s. from + 0 ≤ length s.buffer.text) (from == to) site (Rattle.text_model.specs.Commit.no_pending (Rattle.text_model.specs.Commit.deleted id from to site))
    (λ q. omega arith)
    (λ q. let x : length (splice from to [] site.buffer.text) + (to - from) ≡ length site.buffer.text + 0 = length-splice from to [] site.buffer.text h k in omega arith)
replaced_place id from to (c ∷ piece) all site h k =
    let x : length (splice from from (c ∷ piece) site.buffer.text) + (from - from) ≡ length site.buffer.text + length (c ∷ piece) = length-splice from from (c ∷ piece) site.buffer.text (omega arith) (omega arith) in
    omega arith

-- the mark's place behind the piece
put_place : (id from to : ℕ) (piece : List Cell) (all point_after widen : Bool) (site : Site) → from ≤ to → to ≤ length site.buffer.text → from + length piece ≤ length (put_site id from to piece all point_after widen site).buffer.text
put_place id from to piece all point_after widen site h k = rw (pointed_text point_after (from + length piece) (replaced id from to piece all (first_widened widen site))) (replaced_place id from to piece all (first_widened widen site) h (rw (widened_text widen site) k))

-- a marker's spot set besides
marked_steady : (mark : Option ℕ) (id at : ℕ) (e new : Editor) → Steady e new → at ≤ size_of new id → Steady e (mark_to mark id at new)
marked_steady None id at e new s h = s
marked_steady (Some k) id at e new s h =
    let t : Steady new (set_marker_spot k (Some (record { buffer = id; place = at })) new) = change_marker_steady k (λ m. record m { spot = Some (record { buffer = id; place = at }) }) new s.advances.good (λ j x. λ q. subst (λ i. at ≤ size_of new i) (eqb-true id j q) h) in
    record { advances = record { good = t.advances.good; longer = s.advances.longer; dead = s.advances.dead; passes = s.advances.passes }; same_shapes = s.same_shapes }

none_of : (o : Option Entry) → not (is_some o) ≡ true → o ≡ None
none_of None x = refl
none_of (Some y) x = absurd (false≢true x)

-- the trial of a commit that isn't refused
pub tried_at : (e : Editor) (id n : ℕ) → first_fault (commit_tests e id (UndoGroups n)) ≡ None → trial (buffer_at e id).begin (buffer_at e id).end (undone n (buffer_at e id).undo) ≡ None
tried_at e id n q =
    none_of (trial (buffer_at e id).begin (buffer_at e id).end (undone n (buffer_at e id).undo))
    (refuse_ok _ _ (no_fault (refuse Fault.UndoOutside (not (is_some (trial (buffer_at e id).begin (buffer_at e id).end (undone n (buffer_at e id).undo))))) [] (drop_fault 3 (commit_tests e id (UndoGroups n)) q)).0)

changed_steady : (e : Editor) (id from to : ℕ) (what : What) → GoodEditor e → FineWhat what → from ≤ to → to ≤ size_of e id → first_fault (commit_tests e id what) ≡ None → Steady e (changed e id from to what)
changed_steady e id from to (Put piece all point_after widen mark) g f h k q =
    let t : (refuse Fault.BufferKilled (is_live e id) ≡ None) × (first_fault (must_have_room e id (length piece) ∷ []) ≡ None) = no_fault (refuse Fault.BufferKilled (is_live e id)) (must_have_room e id (length piece) ∷ []) q in
    let l : (l : Live) × (live e id ≡ Some l) = some_of (live e id) (refuse_ok Fault.BufferKilled (is_live e id) t.0) in
    marked_steady mark id (from + length piece) e (change_site id (put_site id from to piece all point_after widen) e) (record {
      advances = site_advances id (put_site id from to piece all point_after widen) e g (λ m r. step m r);
      same_shapes = site_shapes id (put_site id from to piece all point_after widen) e (λ m r. (step m r).fitting.same_shapes);
    }) (place l.0 l.1)
  where
    step : (m : Live) → live e id ≡ Some m → SiteStep id (record { buffer = m.buffer; marks = e.marks }) (put_site id from to piece all point_after widen (record { buffer = m.buffer; marks = e.marks }))
    step m r = put_step id from to piece all point_after widen (record { buffer = m.buffer; marks = e.marks }) h (subst (λ b. to ≤ length b.text) (buffer_live e id m r) k) f (g.each id m r)

    place : (m : Live) → live e id ≡ Some m → from + length piece ≤ size_of (change_site id (put_site id from to piece all point_after widen) e) id
    place m r = subst (λ n. from + length piece ≤ n) (sym (size_after id (put_site id from to piece all point_after widen) e m r)) (put_place id from to piece all point_after widen (record { buffer = m.buffer; marks = e.marks }) h (subst (λ b. to ≤ length b.text) (buffer_live e id m r) k))
changed_steady e id from to (Props edit) g f h k q = record {
  advances = site_advances id (λ site. record site { buffer = reset edit from to site.buffer }) e g (λ m r. reset_step id edit from to (record { buffer = m.buffer; marks = e.marks }) h (subst (λ b. to ≤ length b.text) (buffer_live e id m r) k) f (g.each id m r));
  same_shapes = site_shapes id (λ site. record site { buffer = reset edit from to site.buffer }) e (λ m r. refl);
}
changed_steady e id from to (UndoGroups n) g f h k q = record {
  advances = site_advances id (undone_groups id (passed n (buffer_at e id).undo)) e g (λ m r. step m r);
  same_shapes = site_shapes id (undone_groups id (passed n (buffer_at e id).undo)) e (λ m r. (step m r).fitting.same_shapes);
}
  where
    tried : trial (buffer_at e id).begin (buffer_at e id).end (undone n (buffer_at e id).undo) ≡ None
    tried = tried_at e id n q

    step : (m : Live) → live e id ≡ Some m → SiteStep id (record { buffer = m.buffer; marks = e.marks }) (undone_groups id (passed n (buffer_at e id).undo) (record { buffer = m.buffer; marks = e.marks }))
    step m r = subst (λ b. SiteStep id (record { buffer = m.buffer; marks = e.marks }) (undone_groups id (passed n b.undo) (record { buffer = m.buffer; marks = e.marks }))) (sym (buffer_live e id m r))
        (groups_step id n (record { buffer = m.buffer; marks = e.marks }) (g.each id m r) (subst (λ b. trial b.begin b.end (undone n b.undo) ≡ None) (buffer_live e id m r) tried))

-- a change in a buffer that lives then
first_test : (e : Editor) (id : ℕ) (what : What) → first_fault (commit_tests e id what) ≡ None → is_live e id ≡ true
first_test e id (Put piece all point_after widen mark) h = refuse_ok Fault.BufferKilled (is_live e id) (no_fault (refuse Fault.BufferKilled (is_live e id)) (must_have_room e id (length piece) ∷ []) h).0
first_test e id (Props edit) h = refuse_ok Fault.BufferKilled (is_live e id) (no_fault (refuse Fault.BufferKilled (is_live e id)) [] h).0
first_test e id (UndoGroups n) h = refuse_ok Fault.BufferKilled (is_live e id) (no_fault (refuse Fault.BufferKilled (is_live e id)) (undo_tests (buffer_at e id) n) h).0

pub commit_steady : (e : Editor) (c : Change) → GoodEditor e → (is_live e c.buffer ≡ true → FineChange e c) → Steady e (commit e c).editor
commit_steady e c g f = go (first_fault (commit_tests e c.buffer c.what)) refl
  where
    go : (o : Option Fault) → first_fault (commit_tests e c.buffer c.what) ≡ o → Steady e (commit_of o e (changed e c.buffer c.from c.to c.what) c).editor
    go None q = let x : FineChange e c = f (first_test e c.buffer c.what q) in changed_steady e c.buffer c.from c.to c.what g x.what x.order x.fits q
    go (Some x) q = steady_self e g

-- the buffer after groups were undone
pub groups_committed : (e : Editor) (k : Change) (id n : ℕ) (l m : Live) → k.buffer ≡ id → k.what ≡ UndoGroups n → first_fault (commit_tests e id (UndoGroups n)) ≡ None → live e id ≡ Some l → live (commit e k).editor id ≡ Some m →
    m.buffer ≡ (undone_groups id (passed n l.buffer.undo) (record { buffer = l.buffer; marks = e.marks })).buffer
groups_committed e k id n l m p q t h j =
    let f : Site → Site = undone_groups id (passed n (buffer_at e id).undo) in
    let a : (commit_of (first_fault (commit_tests e k.buffer k.what)) e (changed e k.buffer k.from k.to k.what) k).editor ≡ change_site id f e =
    ap (λ i. (commit_of (first_fault (commit_tests e i k.what)) e (changed e i k.from k.to k.what) k).editor) p ∙
    ap (λ w. (commit_of (first_fault (commit_tests e id w)) e (changed e id k.from k.to w) k).editor) q ∙
    ap (λ o. (commit_of o e (changed e id k.from k.to (UndoGroups n)) k).editor) t in
    let b : record l { buffer = (f (record { buffer = l.buffer; marks = e.marks })).buffer } ≡ m = same_Some _ m (sym (site_live id f e l h) ∙ ap (λ x. live x id) (sym a) ∙ j) in
    ap (λ x. x.buffer) (sym b) ∙ ap (λ x. (undone_groups id (passed n x.undo) (record { buffer = l.buffer; marks = e.marks })).buffer) (buffer_live e id l h)
