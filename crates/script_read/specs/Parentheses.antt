-- A parenthesis in front of some bytes.
use Rattle.std.specs.Prelude.{ℕ, ◌==◌, Bool, ◌||◌, if◌then◌else◌, List, [], ◌∷◌, Option, Some, None}

abbrev pub is_parenthesis : ℕ → Bool
is_parenthesis c = c == 40 || c == 41

-- behind this byte, where it comes first
abbrev pub behind_byte : ℕ → List ℕ → Option (List ℕ)
behind_byte byte [] = None
behind_byte byte (c ∷ rest) = if c == byte then Some rest else None
