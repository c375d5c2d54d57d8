-- What the code does at a carriage return.
use Rattle.std.specs.Prelude.{◌≡◌, ℕ, Bool, true, false, ◌||◌, ◌==◌, List, [], ◌∷◌, ◌++◌}
use Rattle.text_model.specs.Characters.{Ch, Scalar}

abbrev pub has_return : List ℕ → Bool
has_return [] = false
has_return (b ∷ bytes) = b == 13 || has_return bytes

abbrev pub begins_by : (first : ℕ) → List ℕ → Bool
begins_by first [] = false
begins_by first (b ∷ bytes) = b == first

-- bytes of which the first is a carriage return, or none
abbrev pub StartsAtReturn : List ℕ → Type 0
StartsAtReturn [] = Unit {0}
StartsAtReturn (b ∷ bytes) = b ≡ 13

-- bytes in two parts, of which the second begins with the first carriage return
pub record IsSplit (bytes line end : List ℕ) : Type 0 where
  pub whole : line ++ end ≡ bytes
  pub before : has_return line ≡ false
  pub here : StartsAtReturn end

-- a carriage return, unless a line feed is the next byte
abbrev pub return_before : (next : List ℕ) → List Ch
return_before next = elim (begins_by 10 next) [ true ↦ [] | false ↦ Scalar 13 ∷ [] ]
