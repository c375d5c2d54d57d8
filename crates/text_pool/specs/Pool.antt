-- A pool of blocks: under the number of each live block its 256 cells.
use Rattle.std.specs.Prelude.{◌≡◌, ◌≢◌, ℕ, List, [], Option, None, length, slice_index_or, count_by}
use Rattle.std.specs.Prelude.{is_some, IsSomeAnd, unwrap_or}

-- the cells under each number, and how many more blocks can be taken
pub record Pooled : Type 0 where
  pub slots : List (Option (List ℕ))
  pub spare : ℕ

-- the cells under this number, if a block has it
abbrev pub cells_at : Pooled → ℕ → Option (List ℕ)
cells_at pool number = slice_index_or pool.slots number None

-- the cells of a live block
abbrev pub cells : Pooled → ℕ → List ℕ
cells pool number = unwrap_or (cells_at pool number) []

-- a block of this number is in the pool, with its 256 cells
abbrev pub IsLive : Pooled → ℕ → Type 0
IsLive pool number = IsSomeAnd (cells_at pool number) (λ found. length found ≡ 256)

-- how many blocks are live
abbrev pub live : Pooled → ℕ
live pool = count_by is_some pool.slots

-- each block but this one is there as before, with the same cells, or is not there as before
abbrev pub SameOthers : Pooled → Pooled → ℕ → Type 0
SameOthers old new number = (other : ℕ) → other ≢ number → cells_at new other ≡ cells_at old other
