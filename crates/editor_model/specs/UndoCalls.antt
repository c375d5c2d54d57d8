-- The calls on undo records. GNU Emacs Lisp Reference Manual, sections "Undo" and "Maintaining Undo".
use Rattle.std.specs.Prelude.{ℕ, pos, Bool, true, false, not, nat_lt, nat_le, ◌&&◌, List, [], ◌∷◌, map}
use Rattle.std.specs.Prelude.{length, is_some}
use Rattle.text_model.specs.Undo.{Undo, Entry, Rec, Boundary, Point, Inserted, Deleted, Prop, First}
use Rattle.text_model.specs.Undo.{Moved, with_boundary, started, disabled, enabled, pending, undone}
use Rattle.text_model.specs.Undo.{trial}
use Rattle.text_model.specs.Commit.{Buffer}
use Rattle.editor_model.specs.Values.{Value, Nil, T, Int, Sym, Str, Dotted, TheMarker, list, values}
use Rattle.editor_model.specs.Values.{at_place, of_prop, ArgsOutOfRange, UndoDisabled, NoFurtherUndo}
use Rattle.editor_model.specs.Values.{UndoOutside, Reply, Answered}
use Rattle.editor_model.specs.Editor.{Editor, here, change_buffer}
use Rattle.editor_model.specs.Answers.{Test, refuse, Applied, applied, UndoGroups, Change, Prepared}
use Rattle.editor_model.specs.Answers.{Changes, Quiet, prepared}
use Rattle.editor_model.specs.ReadOnly.{must_be_writable_here}
use Rattle.editor_model.specs.Arguments.{count_of, must_be_integer}
use Rattle.editor_model.specs.Limits.{most_groups}

-- ASKING
abbrev pub record_value : Rec → Value
record_value Boundary = Nil
record_value (Point p) = at_place p
record_value (Inserted from to) = Dotted (values (at_place from ∷ [])) (at_place to)
record_value (Deleted piece place) = Dotted (values (Str piece ∷ [])) (at_place place)
record_value (Prop name old from to) = Dotted
    (values (Nil ∷ Sym name ∷ of_prop old ∷ at_place from ∷ [])) (at_place to)
record_value First = Dotted (values (T ∷ [])) (Int (pos 0))
record_value (Moved marker adjustment) = Dotted (values (TheMarker marker ∷ [])) (Int adjustment)

abbrev pub records_value : (on : Bool) → List Entry → Value
records_value false entries = T
records_value true entries = list (map (λ e. record_value e.what) entries)

abbrev pub buffer_undo_list : Editor → Reply
buffer_undo_list e = let u = (here e).undo in Answered (records_value u.on u.entries)

-- SETTING
abbrev pub with_undo : (Undo → Undo) → Editor → Editor
with_undo change e = change_buffer e.current (λ b. record b { undo = change b.undo }) e

abbrev pub must_record : Buffer → Test
must_record b = refuse UndoDisabled b.undo.on

abbrev pub undo_boundary : Editor → Applied
undo_boundary e = applied e [] (with_undo with_boundary e) Nil

abbrev pub undo_start : Editor → Applied
undo_start e = applied e (must_record (here e) ∷ []) (with_undo started e) Nil

abbrev pub buffer_disable_undo : Editor → Applied
buffer_disable_undo e = applied e [] (with_undo disabled e) Nil

abbrev pub buffer_enable_undo : Editor → Applied
buffer_enable_undo e = applied e [] (with_undo enabled e) Nil

-- CHANGING
-- what bars `undo-more n`, at its preparation and once more at its commit
abbrev pub undo_tests : Buffer → (n : ℕ) → List Test
undo_tests b n =
    must_record b ∷ refuse NoFurtherUndo (nat_lt 0 (length (pending b.undo))) ∷
    refuse UndoOutside (not (is_some (trial b.begin b.end (undone n b.undo)))) ∷ []

abbrev pub undo_change : List Entry → Change → Prepared
undo_change [] c = Quiet c
undo_change (r ∷ records) c = Changes c

-- a read-only buffer bars it also where no record is undone; read-only text doesn't bar it
abbrev pub undo_more : Editor → Value → Prepared
undo_more e v =
    let b = here e in
    let n : ℕ = count_of v in
    prepared (
    must_be_integer v ∷ refuse ArgsOutOfRange (nat_le 1 n && nat_le n most_groups) ∷
    must_be_writable_here e true false ∷ undo_tests b n)
    (undo_change (undone n b.undo) (record
    { buffer = e.current; from = b.begin; to = b.end; what = UndoGroups n; reply = Nil }))
