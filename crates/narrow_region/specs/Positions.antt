-- Positions of calls, which count from 1, as places of a text, which count from 0.
use Rattle.std.specs.Prelude.{ℕ, ◌-◌, ℤ, pos, negsuc}

-- what lies before the first position counts as that position
abbrev pub place_of : ℤ → ℕ
place_of (pos n) = n - 1
place_of (negsuc n) = 0
