-- Pieces one behind the other.
use Rattle.std.proofs.Common.{◌≡◌, ℕ, ◌+◌, ◌≤◌, List, [], ◌∷◌, ◌++◌, length, take, drop, sym, ap, ◌∙◌, arith, append-nil, length-append}
use Rattle.std.specs.Prelude.{slice_get, Some, replicate}
use Rattle.std.proofs.lemmas.List.{map-append, replicate-append-replicate, take-append-drop}
use Rattle.std.proofs.lemmas.Grind.{flat_map-append}
use Rattle.text_model.specs.Properties.{PropSet, Cell}
use Rattle.text_model.proofs.Lists.{take_one_more}
use Rattle.prop_intervals.specs.Sets.{sets_in, together}

-- one piece more
pub together_more : (pieces : List (List Cell)) (i : ℕ) (p : List Cell) → slice_get pieces i ≡ Some p → together (take (i + 1) pieces) ≡ together (take i pieces) ++ p
together_more pieces i p h = ap together (take_one_more pieces i p h) ∙ flat_map-append (λ q. q) (take i pieces) (p ∷ []) ∙ ap (λ q. together (take i pieces) ++ q) (append-nil p)

pub length_more : (pieces : List (List Cell)) (i : ℕ) (p : List Cell) → slice_get pieces i ≡ Some p → length (together (take (i + 1) pieces)) ≡ length (together (take i pieces)) + length p
length_more pieces i p h = ap length (together_more pieces i p h) ∙ length-append (together (take i pieces)) p

pub sets_more : (pieces : List (List Cell)) (i : ℕ) (p : List Cell) → slice_get pieces i ≡ Some p → sets_in (together (take (i + 1) pieces)) ≡ sets_in (together (take i pieces)) ++ sets_in p
sets_more pieces i p h = ap sets_in (together_more pieces i p h) ∙ map-append (λ c. c.1) (together (take i pieces)) p

-- one piece more of characters with one set
pub all_more_together : (pieces : List (List Cell)) (i : ℕ) (p : List Cell) (set : PropSet) → slice_get pieces i ≡ Some p → sets_in p ≡ replicate (length p) set
    → sets_in (together (take i pieces)) ≡ replicate (length (together (take i pieces))) set → sets_in (together (take (i + 1) pieces)) ≡ replicate (length (together (take (i + 1) pieces))) set
all_more_together pieces i p set h one so_far =
    sets_more pieces i p h ∙ ap (λ s. s ++ sets_in p) so_far ∙ ap (λ s. replicate (length (together (take i pieces))) set ++ s) one
    ∙ replicate-append-replicate (length (together (take i pieces))) (length p) set ∙ ap (λ n. replicate n set) (sym (length_more pieces i p h))

-- no more than all
pub length_within : (pieces : List (List Cell)) (i : ℕ) → length (together (take i pieces)) ≤ length (together pieces)
length_within pieces i =
    let parts = flat_map-append (λ q. q) (take i pieces) (drop i pieces) in
    omega (arith, sym (ap length parts), length-append (together (take i pieces)) (together (drop i pieces)), ap (λ l. length (together l)) (take-append-drop i pieces))
