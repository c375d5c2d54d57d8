-- Fronts of lists: what was written of bytes where the writing was broken off.
use Rattle.std.specs.Prelude.{◌≡◌, ℕ, List, ◌++◌}

abbrev pub IsPrefixOf : List ℕ → List ℕ → Type 0
IsPrefixOf front whole = (rest : List ℕ) × (front ++ rest ≡ whole)
