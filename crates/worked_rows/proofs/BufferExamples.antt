-- Calls on buffers.
use Rattle.std.specs.Prelude.{◌≡◌, [], ◌∷◌, codes, replicate}
use Rattle.std.specs.Fmt.{digits}
use Rattle.std.proofs.Common.{refl}
use Rattle.editor_model.specs.Values.{Nil, Str, TheBuffer, list, Refused, Prim, WrongType, NoSuchBuffer, TooMany}
use Rattle.worked_rows.specs.Row.{with_set, text}
use Rattle.worked_rows.proofs.Doing.{Calls, answers, num, is, yes, no}

-- names that aren't free get a number; a buffer keeps its own name
abbrev names_calls : Calls
names_calls =
    (Prim.GenerateNewBuffer, text (codes "w") ∷ []) ∷
    (Prim.GenerateNewBuffer, text (codes "w") ∷ []) ∷
    (Prim.GenerateNewBuffer, text (codes "w<2>") ∷ []) ∷
    (Prim.RenameBuffer, text (codes "w") ∷ []) ∷
    (Prim.RenameBuffer, text (codes "w<3>") ∷ []) ∷
    (Prim.GetBuffer, text (codes "w<2><2>") ∷ []) ∷
    (Prim.GetBuffer, text (codes "no") ∷ []) ∷
    (Prim.BufferList, []) ∷
    (Prim.BufferName, []) ∷
    (Prim.BufferLiveP, Nil ∷ []) ∷ []

pub names : answers [] names_calls ≡ is (TheBuffer 1) ∷ is (TheBuffer 2) ∷ is (TheBuffer 3) ∷ is (text (codes "w<3>")) ∷ is (text (codes "w<3>")) ∷ is (TheBuffer 3) ∷ no ∷ is (list (TheBuffer 0 ∷ TheBuffer 1 ∷ TheBuffer 2 ∷ TheBuffer 3 ∷ [])) ∷ is (text (codes "w<3>")) ∷ no ∷ []
unfolding digits
names = refl

-- what is refused
abbrev buffer_refusals_calls : Calls
buffer_refusals_calls =
    (Prim.GetBufferCreate, text (codes "") ∷ []) ∷
    (Prim.GenerateNewBuffer, text (codes "") ∷ []) ∷
    (Prim.RenameBuffer, Nil ∷ []) ∷
    (Prim.SetBuffer, Nil ∷ []) ∷
    (Prim.SetBuffer, text (codes "no") ∷ []) ∷
    (Prim.BufferModifiedP, text (codes "no") ∷ []) ∷
    (Prim.SetBufferModifiedP, num 1 ∷ []) ∷
    (Prim.BufferModifiedP, []) ∷
    (Prim.GetBufferCreate, Str (with_set [] (replicate 257 97)) ∷ []) ∷
    (Prim.RenameBuffer, Str (with_set [] (replicate 257 97)) ∷ []) ∷ []

pub buffer_refusals : answers [] buffer_refusals_calls ≡ Refused WrongType ∷ Refused WrongType ∷ Refused WrongType ∷ Refused WrongType ∷ Refused NoSuchBuffer ∷ Refused NoSuchBuffer ∷ yes ∷ yes ∷ Refused TooMany ∷ Refused TooMany ∷ []
buffer_refusals = refl
