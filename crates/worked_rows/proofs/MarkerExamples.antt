-- Calls on markers.
use Rattle.std.specs.Prelude.{◌≡◌, negsuc, [], ◌∷◌, codes}
use Rattle.std.proofs.Common.{refl}
use Rattle.editor_model.specs.Values.{Nil, T, Int, Sym, TheBuffer, TheMarker, Refused, Prim, ArgsOutOfRange, WrongType, NoSuchBuffer}
use Rattle.worked_rows.specs.Row.{text}
use Rattle.worked_rows.proofs.Doing.{Calls, answers, num, is, yes, no}

-- an insertion at the place of two markers
abbrev at_a_tie_calls : Calls
at_a_tie_calls =
    (Prim.Insert, text (codes "abcd") ∷ []) ∷
    (Prim.CopyMarker, num 2 ∷ []) ∷
    (Prim.CopyMarker, num 2 ∷ T ∷ []) ∷
    (Prim.GotoChar, num 2 ∷ []) ∷
    (Prim.Insert, text (codes "xy") ∷ []) ∷
    (Prim.MarkerPosition, TheMarker 0 ∷ []) ∷
    (Prim.MarkerPosition, TheMarker 1 ∷ []) ∷
    (Prim.InsertBeforeMarkers, text (codes "z") ∷ []) ∷
    (Prim.MarkerPosition, TheMarker 0 ∷ []) ∷
    (Prim.MarkerPosition, TheMarker 1 ∷ []) ∷ []

pub at_a_tie : answers [] at_a_tie_calls ≡ no ∷ is (TheMarker 0) ∷ is (TheMarker 1) ∷ is (num 2) ∷ no ∷ is (num 2) ∷ is (num 4) ∷ no ∷ is (num 2) ∷ is (num 5) ∷ []
at_a_tie = refl

-- made, moved, pointing nowhere
abbrev markers_set_calls : Calls
markers_set_calls =
    (Prim.Insert, text (codes "abcdef") ∷ []) ∷
    (Prim.CopyMarker, num 99 ∷ []) ∷
    (Prim.CopyMarker, Int (negsuc 2) ∷ T ∷ []) ∷
    (Prim.MarkerPosition, TheMarker 1 ∷ []) ∷
    (Prim.SetMarker, TheMarker 1 ∷ TheMarker 0 ∷ []) ∷
    (Prim.MarkerInsertionType, TheMarker 1 ∷ []) ∷
    (Prim.SetMarker, TheMarker 0 ∷ Nil ∷ []) ∷
    (Prim.MarkerPosition, TheMarker 0 ∷ []) ∷
    (Prim.GotoChar, TheMarker 0 ∷ []) ∷
    (Prim.MarkerPosition, TheMarker 1 ∷ []) ∷
    (Prim.SetMarkerInsertionType, TheMarker 1 ∷ Nil ∷ []) ∷
    (Prim.CopyMarker, TheMarker 0 ∷ []) ∷
    (Prim.SetMarker, TheMarker 1 ∷ num 1 ∷ text (codes "no") ∷ []) ∷
    (Prim.SetMarker, TheMarker 1 ∷ Nil ∷ text (codes "no") ∷ []) ∷
    (Prim.SetMarker, TheMarker 1 ∷ Sym 20 ∷ text (codes "no") ∷ []) ∷
    (Prim.MarkerBuffer, TheMarker 1 ∷ []) ∷
    (Prim.CopyMarker, Sym 20 ∷ []) ∷
    (Prim.PointMarker, []) ∷
    (Prim.MakeMarker, []) ∷ []

pub markers_set : answers [] markers_set_calls ≡ no ∷ is (TheMarker 0) ∷ is (TheMarker 1) ∷ is (num 1) ∷ is (TheMarker 1) ∷ yes ∷ is (TheMarker 0) ∷ no ∷ Refused ArgsOutOfRange ∷ is (num 7) ∷ no ∷ is (TheMarker 2) ∷ Refused NoSuchBuffer ∷ Refused NoSuchBuffer ∷ Refused WrongType ∷ is (TheBuffer 0) ∷ Refused WrongType ∷ is (TheMarker 3) ∷ is (TheMarker 4) ∷ []
markers_set = refl
