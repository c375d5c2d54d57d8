-- UTF-8, as the Unicode Standard's table of well-formed byte sequences (its Table 3-7) has it.
use Rattle.std.specs.Prelude.{ℕ, zero, suc, ◌+◌, ◌-◌, ◌*◌, Bool, ◌&&◌, nat_le, List, [], ◌∷◌, ◌++◌, map}
use Rattle.text_model.specs.Characters.{Ch, Scalar, Raw}

-- the bytes from low to high
pub record Range : Type 0 where
  pub low : ℕ
  pub high : ℕ

abbrev pub within : Range → ℕ → Bool
within r b = nat_le r.low b && nat_le b r.high

abbrev pub range : ℕ → ℕ → Range
range low high = record { low = low; high = high }

-- the well-formed sequences: what each byte may be, one row for each range of first bytes
abbrev pub well_formed : List (List Range)
well_formed =
    (range 0x00 0x7F ∷ []) ∷
    (range 0xC2 0xDF ∷ range 0x80 0xBF ∷ []) ∷
    (range 0xE0 0xE0 ∷ range 0xA0 0xBF ∷ range 0x80 0xBF ∷ []) ∷
    (range 0xE1 0xEC ∷ range 0x80 0xBF ∷ range 0x80 0xBF ∷ []) ∷
    (range 0xED 0xED ∷ range 0x80 0x9F ∷ range 0x80 0xBF ∷ []) ∷
    (range 0xEE 0xEF ∷ range 0x80 0xBF ∷ range 0x80 0xBF ∷ []) ∷
    (range 0xF0 0xF0 ∷ range 0x90 0xBF ∷ range 0x80 0xBF ∷ range 0x80 0xBF ∷ []) ∷
    (range 0xF1 0xF3 ∷ range 0x80 0xBF ∷ range 0x80 0xBF ∷ range 0x80 0xBF ∷ []) ∷
    (range 0xF4 0xF4 ∷ range 0x80 0x8F ∷ range 0x80 0xBF ∷ range 0x80 0xBF ∷ []) ∷ []

-- what stands at the front of some bytes: a whole sequence of a row, all that is left of one, or neither
pub data Front : Type 0 where
  Whole : (sequence : List ℕ) → Front
  Part : Front
  Neither : Front

abbrev pub longer : ℕ → Front → Front
longer b (Whole sequence) = Whole (b ∷ sequence)
longer b Part = Part
longer b Neither = Neither

-- the bytes against one row
abbrev pub against : List Range → List ℕ → Front
against [] bytes = Whole []
against (r ∷ row) [] = Part
against (r ∷ row) (b ∷ bytes) =
    elim (within r b) [ Bool.true ↦ longer b (against row bytes) | Bool.false ↦ Neither ]

-- the bytes against all rows: no two rows share a first byte
abbrev pub against_any : List (List Range) → List ℕ → Front
against_any [] bytes = Neither
against_any (row ∷ rows) bytes =
    elim (against row bytes) [ Whole s ↦ Whole s | Part ↦ Part | Neither ↦ against_any rows bytes ]

abbrev pub front : List ℕ → Front
front bytes = against_any well_formed bytes

-- the scalar value that a well-formed sequence encodes
abbrev pub scalar_of : List ℕ → ℕ
scalar_of (a ∷ []) = a
scalar_of (a ∷ b ∷ []) = (a - 0xC0) * 64 + (b - 0x80)
scalar_of (a ∷ b ∷ c ∷ []) = (a - 0xE0) * 4096 + (b - 0x80) * 64 + (c - 0x80)
scalar_of (a ∷ b ∷ c ∷ d ∷ []) = (a - 0xF0) * 262144 + (b - 0x80) * 4096 + (c - 0x80) * 64 + (d - 0x80)
scalar_of _ = 0

-- how many bytes of a sequence follow its first
abbrev pub following : List ℕ → ℕ
following [] = 0
following (b ∷ []) = 0
following (b ∷ c ∷ rest) = suc (following (c ∷ rest))

-- The characters of the bytes, but for the first `skip` of them, without a tail that may still become a
-- character.
abbrev pub characters_after : (skip : ℕ) → List ℕ → List Ch
characters_after skip [] = []
characters_after (suc skip) (b ∷ bytes) = characters_after skip bytes
characters_after zero (b ∷ bytes) = elim (front (b ∷ bytes)) [
  | Whole s ↦ Scalar (scalar_of s) ∷ characters_after (following s) bytes
  | Part ↦ []
  | Neither ↦ Raw b ∷ characters_after zero bytes
]

-- that tail
abbrev pub tail_after : (skip : ℕ) → List ℕ → List ℕ
tail_after skip [] = []
tail_after (suc skip) (b ∷ bytes) = tail_after skip bytes
tail_after zero (b ∷ bytes) = elim (front (b ∷ bytes)) [
  | Whole s ↦ tail_after (following s) bytes
  | Part ↦ b ∷ bytes
  | Neither ↦ tail_after zero bytes
]

abbrev pub characters : List ℕ → List Ch
characters bytes = characters_after 0 bytes

abbrev pub tail : List ℕ → List ℕ
tail bytes = tail_after 0 bytes

-- all the bytes: a tail that nothing follows is raw bytes
abbrev pub all_characters : List ℕ → List Ch
all_characters bytes = characters bytes ++ map Raw (tail bytes)
