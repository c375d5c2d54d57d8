-- Calls on undo records.
use Rattle.std.specs.Prelude.{◌≡◌, negsuc, [], ◌∷◌, codes}
use Rattle.std.proofs.Common.{refl}
use Rattle.text_model.specs.Properties.{Symbol}
use Rattle.editor_model.specs.Values.{Nil, T, Int, Str, TheMarker, Dotted, list, values, Refused, Prim, ArgsOutOfRange, NoFurtherUndo, UndoOutside, UndoDisabled}
use Rattle.worked_rows.specs.Row.{with_set, text}
use Rattle.worked_rows.proofs.Doing.{Calls, answers, num, is, yes, no}

-- recording switched off and on
abbrev switched_off_calls : Calls
switched_off_calls =
    (Prim.Insert, text (codes "ab") ∷ []) ∷
    (Prim.UndoMore, num 1 ∷ []) ∷
    (Prim.BufferDisableUndo, []) ∷
    (Prim.UndoStart, []) ∷
    (Prim.BufferUndoList, []) ∷
    (Prim.UndoMore, num 0 ∷ []) ∷
    (Prim.UndoMore, num 1 ∷ []) ∷
    (Prim.BufferEnableUndo, []) ∷
    (Prim.BufferUndoList, []) ∷ []

pub switched_off : answers [] switched_off_calls ≡ no ∷ Refused NoFurtherUndo ∷ no ∷ Refused UndoDisabled ∷ yes ∷ Refused ArgsOutOfRange ∷ Refused UndoDisabled ∷ no ∷ no ∷ []
switched_off = refl

-- a deletion undone brings its properties back
abbrev deleted_back_calls : Calls
deleted_back_calls =
    (Prim.Insert, Str (with_set ((20, Symbol 21) ∷ []) (codes "ab")) ∷ []) ∷
    (Prim.UndoBoundary, []) ∷
    (Prim.DeleteRegion, num 1 ∷ num 2 ∷ []) ∷
    (Prim.UndoStart, []) ∷
    (Prim.UndoMore, num 1 ∷ []) ∷
    (Prim.BufferString, []) ∷ []

pub deleted_back : answers [] deleted_back_calls ≡ no ∷ no ∷ no ∷ no ∷ no ∷ is (Str (with_set ((20, Symbol 21) ∷ []) (codes "ab"))) ∷ []
deleted_back = refl

-- the first group is empty; undoing the first change clears the flag
abbrev empty_groups_calls : Calls
empty_groups_calls =
    (Prim.Insert, text (codes "ab") ∷ []) ∷
    (Prim.UndoBoundary, []) ∷
    (Prim.Insert, text (codes "c") ∷ []) ∷
    (Prim.UndoBoundary, []) ∷
    (Prim.UndoStart, []) ∷
    (Prim.UndoMore, num 1 ∷ []) ∷
    (Prim.UndoMore, num 1 ∷ []) ∷
    (Prim.BufferString, []) ∷
    (Prim.UndoMore, num 1 ∷ []) ∷
    (Prim.UndoMore, num 1 ∷ []) ∷
    (Prim.BufferString, []) ∷
    (Prim.BufferModifiedP, []) ∷ []

pub empty_groups : answers [] empty_groups_calls ≡ no ∷ no ∷ no ∷ no ∷ no ∷ no ∷ no ∷ is (text (codes "ab")) ∷ no ∷ Refused NoFurtherUndo ∷ is (text (codes "")) ∷ no ∷ []
empty_groups = refl

-- the records of a deletion, and its marker moved back
abbrev records_calls : Calls
records_calls =
    (Prim.Insert, text (codes "abcd") ∷ []) ∷
    (Prim.CopyMarker, num 3 ∷ []) ∷
    (Prim.UndoBoundary, []) ∷
    (Prim.DeleteRegion, num 2 ∷ num 4 ∷ []) ∷
    (Prim.BufferUndoList, []) ∷
    (Prim.UndoStart, []) ∷
    (Prim.UndoMore, num 1 ∷ []) ∷
    (Prim.MarkerPosition, TheMarker 0 ∷ []) ∷ []

pub records : answers [] records_calls ≡ no ∷ is (TheMarker 0) ∷ no ∷ no ∷ is (list (Dotted (values (text (codes "bc") ∷ [])) (num 2) ∷ Dotted (values (TheMarker 0 ∷ [])) (Int (negsuc 0)) ∷ num 5 ∷ Nil ∷ Dotted (values (num 1 ∷ [])) (num 5) ∷ Dotted (values (T ∷ [])) (num 0) ∷ [])) ∷ no ∷ no ∷ is (num 3) ∷ []
records = refl

-- a deletion undone puts point before its text; places outside the accessible portion
abbrev point_before_calls : Calls
point_before_calls =
    (Prim.Insert, text (codes "abcdef") ∷ []) ∷
    (Prim.UndoBoundary, []) ∷
    (Prim.GotoChar, num 2 ∷ []) ∷
    (Prim.DeleteRegion, num 2 ∷ num 4 ∷ []) ∷
    (Prim.GotoChar, num 5 ∷ []) ∷
    (Prim.UndoStart, []) ∷
    (Prim.UndoMore, num 1 ∷ []) ∷
    (Prim.PointAt, []) ∷
    (Prim.NarrowToRegion, num 1 ∷ num 2 ∷ []) ∷
    (Prim.UndoStart, []) ∷
    (Prim.UndoMore, num 2 ∷ []) ∷ []

pub point_before : answers [] point_before_calls ≡ no ∷ no ∷ is (num 2) ∷ no ∷ is (num 5) ∷ no ∷ no ∷ is (num 2) ∷ no ∷ no ∷ Refused UndoOutside ∷ []
point_before = refl

-- insertions one behind the other are one record
abbrev merged_calls : Calls
merged_calls =
    (Prim.Insert, text (codes "ab") ∷ []) ∷
    (Prim.Insert, text (codes "cd") ∷ []) ∷
    (Prim.BufferUndoList, []) ∷ []

pub merged_insertions : answers [] merged_calls ≡ no ∷ no ∷ is (list (Dotted (values (num 1 ∷ [])) (num 5) ∷ Dotted (values (T ∷ [])) (num 0) ∷ [])) ∷ []
merged_insertions = refl

-- a boundary isn't pushed on another
abbrev boundaries_calls : Calls
boundaries_calls =
    (Prim.Insert, text (codes "a") ∷ []) ∷
    (Prim.UndoBoundary, []) ∷
    (Prim.UndoBoundary, []) ∷
    (Prim.BufferUndoList, []) ∷ []

pub one_boundary : answers [] boundaries_calls ≡ no ∷ no ∷ no ∷ is (list (Nil ∷ Dotted (values (num 1 ∷ [])) (num 2) ∷ Dotted (values (T ∷ [])) (num 0) ∷ [])) ∷ []
one_boundary = refl

-- nor on an empty list
pub no_boundary_alone : answers [] ((Prim.UndoBoundary, []) ∷ (Prim.BufferUndoList, []) ∷ []) ≡ no ∷ no ∷ []
no_boundary_alone = refl
