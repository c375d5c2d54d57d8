-- The filter `insert-filter` after its last insertion: where it puts point, by the replies to its calls.
use Rattle.std.specs.Prelude.{◌≡◌, ℤ, pos, negsuc, List, [], ◌∷◌, Option, Some, None}
use Rattle.std.proofs.Common.{refl}
use Rattle.editor_model.specs.Values.{Value, Nil, Int, TheBuffer, TheMarker, Reply, Answered, Prim}
use Rattle.plain_machine.specs.Shipped.{shipped}

-- point was at x, the mark at y, and the text that went in there ends at z
abbrev put_in : (x y z : ℤ) → List Reply
put_in x y z =
    Answered (TheBuffer 0) ∷ Answered (TheBuffer 0) ∷ Answered (Int x) ∷ Answered (TheMarker 0) ∷ Answered (Int y) ∷
    Answered (Int y) ∷ Answered Nil ∷ Answered (Int z) ∷ Answered (TheMarker 0) ∷ []

abbrev last_call : (x y z : ℤ) → Option (Prim × List Value)
last_call x y z = shipped 0 [] (put_in x y z)

pub point_in_front_stays : last_call (pos 2) (pos 5) (pos 7) ≡ Some (Prim.GotoChar, Int (pos 2) ∷ [])
point_in_front_stays = refl

pub point_behind_moves : last_call (pos 6) (pos 5) (pos 7) ≡ Some (Prim.GotoChar, Int (pos 8) ∷ [])
point_behind_moves = refl

pub point_at_the_mark_stays_behind : last_call (pos 5) (pos 5) (pos 7) ≡ None
point_at_the_mark_stays_behind = refl

-- the sum decides, also where the difference in it is no number of 64 bits
pub sum_decides : last_call (negsuc 9223372036854775806) (negsuc 9223372036854775807) (pos 0) ≡ Some (Prim.GotoChar, Int (pos 1) ∷ [])
sum_decides = refl

pub sum_too_large : last_call (pos 9223372036854775807) (pos 0) (pos 1) ≡ None
sum_too_large = refl
