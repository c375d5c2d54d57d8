-- Characters: Unicode scalar values, and raw bytes that are part of none.
use Rattle.std.specs.Prelude.{ℕ, ◌+◌, ◌-◌, ◌≤◌, Bool, ◌&&◌, ◌||◌, nat_le, nat_lt, List, [], ◌∷◌}
use Rattle.std.specs.Prelude.{encode_utf8, if◌then◌else◌, Option, Some, None}
use Rattle.std.specs.Char.{IsScalar}

-- a Unicode scalar value, or a byte from 80 to FF (hexadecimal) that is part of no character
pub data Ch : Type 0 where
  Scalar : (code : ℕ) → Ch
  Raw : (byte : ℕ) → Ch

-- what a character may be
abbrev pub IsCharacter : Ch → Type 0
IsCharacter (Scalar c) = IsScalar c
IsCharacter (Raw b) = (0x80 ≤ b) × (b ≤ 0xFF)

-- CODES
-- a raw byte's code lies behind those of all scalar values
abbrev pub code : Ch → ℕ
code (Scalar c) = c
code (Raw b) = 0x3FFF00 + b

abbrev pub is_scalar_code : ℕ → Bool
is_scalar_code n = nat_lt n 0xD800 || (nat_le 0xE000 n && nat_le n 0x10FFFF)

abbrev pub is_raw_code : ℕ → Bool
is_raw_code n = nat_le 0x3FFF80 n && nat_le n 0x3FFFFF

-- the character of a code, if there is one
abbrev pub from_code : ℕ → Option Ch
from_code n =
    if is_scalar_code n then Some (Scalar n) else (if is_raw_code n then Some (Raw (n - 0x3FFF00)) else None)

-- BYTES
-- UTF-8, or the one raw byte
abbrev pub encoded : Ch → List ℕ
encoded (Scalar c) = encode_utf8 c
encoded (Raw b) = b ∷ []
