-- What stands between words.
use Rattle.std.specs.Prelude.{ℕ, zero, suc, List, [], ◌∷◌}

-- a blank in front of each word of a line but the first
abbrev pub gap : (number : ℕ) → List ℕ
gap zero = []
gap (suc n) = 32 ∷ []
