-- Calls on texts.
use Rattle.std.specs.Prelude.{◌≡◌, negsuc, [], ◌∷◌, codes}
use Rattle.std.proofs.Common.{refl}
use Rattle.editor_model.specs.Values.{Int, Sym, TheBuffer, Refused, Prim, ArgsOutOfRange, WrongType, NoSuchBuffer}
use Rattle.worked_rows.specs.Row.{text}
use Rattle.worked_rows.proofs.Doing.{Calls, answers, num, is, yes, no}

-- the accessible portion
abbrev portion_calls : Calls
portion_calls =
    (Prim.Insert, text (codes "abcdef") ∷ []) ∷
    (Prim.NarrowToRegion, num 4 ∷ num 2 ∷ []) ∷
    (Prim.CharAfter, num 1 ∷ []) ∷
    (Prim.CharAfter, num 2 ∷ []) ∷
    (Prim.CharAfter, num 4 ∷ []) ∷
    (Prim.CharAfter, []) ∷
    (Prim.GotoChar, Int (negsuc 4) ∷ []) ∷
    (Prim.PointAt, []) ∷
    (Prim.BufferNarrowedP, []) ∷
    (Prim.BufferSize, []) ∷
    (Prim.BufferSubstring, num 2 ∷ num 5 ∷ []) ∷
    (Prim.BufferSubstring, num 4 ∷ num 2 ∷ []) ∷
    (Prim.DeleteRegion, num 1 ∷ Sym 20 ∷ []) ∷
    (Prim.DeleteAndExtractRegion, num 3 ∷ num 3 ∷ []) ∷
    (Prim.DeleteAndExtractRegion, num 3 ∷ num 2 ∷ []) ∷
    (Prim.PointMax, []) ∷
    (Prim.EraseBuffer, []) ∷
    (Prim.EraseBuffer, []) ∷
    (Prim.BufferNarrowedP, []) ∷
    (Prim.NarrowToRegion, num 1 ∷ num 2 ∷ []) ∷ []

pub portion : answers [] portion_calls ≡ no ∷ no ∷ no ∷ is (num 98) ∷ no ∷ no ∷ is (Int (negsuc 4)) ∷ is (num 2) ∷ yes ∷ is (num 6) ∷ Refused ArgsOutOfRange ∷ is (text (codes "bc")) ∷ Refused WrongType ∷ is (text (codes "")) ∷ is (text (codes "b")) ∷ is (num 3) ∷ no ∷ no ∷ no ∷ Refused ArgsOutOfRange ∷ []
portion = refl

-- text of another buffer, and the order of refusals
abbrev from_a_buffer_calls : Calls
from_a_buffer_calls =
    (Prim.Insert, text (codes "abcdef") ∷ []) ∷
    (Prim.NarrowToRegion, num 2 ∷ num 4 ∷ []) ∷
    (Prim.GetBufferCreate, text (codes "w") ∷ []) ∷
    (Prim.SetBuffer, text (codes "w") ∷ []) ∷
    (Prim.InsertBufferSubstring, text (codes "*scratch*") ∷ []) ∷
    (Prim.InsertBufferSubstring, TheBuffer 0 ∷ num 4 ∷ num 3 ∷ []) ∷
    (Prim.InsertBufferSubstring, TheBuffer 0 ∷ num 3 ∷ []) ∷
    (Prim.InsertBufferSubstring, text (codes "no") ∷ Sym 20 ∷ []) ∷
    (Prim.InsertBufferSubstring, text (codes "no") ∷ num 99 ∷ []) ∷
    (Prim.InsertBufferSubstring, TheBuffer 0 ∷ num 5 ∷ num 3 ∷ []) ∷
    (Prim.BufferString, []) ∷ []

pub from_a_buffer : answers [] from_a_buffer_calls ≡ no ∷ no ∷ is (TheBuffer 1) ∷ is (TheBuffer 1) ∷ no ∷ no ∷ no ∷ Refused WrongType ∷ Refused NoSuchBuffer ∷ Refused ArgsOutOfRange ∷ is (text (codes "bccc")) ∷ []
from_a_buffer = refl

-- an empty text erased is a change of nothing: nothing is recorded
pub erased_nothing : answers [] ((Prim.EraseBuffer, []) ∷ (Prim.BufferModifiedP, []) ∷ (Prim.BufferUndoList, []) ∷ []) ≡ no ∷ no ∷ no ∷ []
erased_nothing = refl
