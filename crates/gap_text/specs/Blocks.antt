-- Lists of blocks in a pool, and their cells as one list.
use Rattle.std.specs.Prelude.{◌≡◌, ◌≢◌, ℕ, ◌*◌, ◌^◌, ◌<◌, List, [], ◌∷◌, length, flat_map, None}
use Rattle.text_pool.specs.Pool.{Pooled, cells_at, cells, IsLive, live}

-- the cells of these blocks, one block after another
abbrev pub cells_of : Pooled → List ℕ → List ℕ
cells_of pool blocks = flat_map (cells pool) blocks

-- this block isn't among them
abbrev pub Absent : ℕ → List ℕ → Type 0
Absent number [] = Unit {0}
Absent number (block ∷ blocks) = (number ≢ block) × Absent number blocks

-- no block stands twice
abbrev pub Distinct : List ℕ → Type 0
Distinct [] = Unit {0}
Distinct (block ∷ blocks) = Absent block blocks × Distinct blocks

abbrev pub AllLive : Pooled → List ℕ → Type 0
AllLive pool [] = Unit {0}
AllLive pool (block ∷ blocks) = IsLive pool block × AllLive pool blocks

-- each block outside the list has the same cells, or is as little there as before
abbrev pub SameOutside : List ℕ → Pooled → Pooled → Type 0
SameOutside blocks old new = (number : ℕ) → Absent number blocks → cells_at new number ≡ cells_at old number

-- no live block became one of these that wasn't one before
abbrev pub OnlyFresh : Pooled → List ℕ → List ℕ → Type 0
OnlyFresh pool old new = (number : ℕ) → IsLive pool number → Absent number old → Absent number new

-- at most the cells of these blocks changed
pub record ChangesCellsOf (blocks : List ℕ) (old new : Pooled) : Type 0 where
  pub others : SameOutside blocks old new
  pub spare : new.spare ≡ old.spare
  pub count : live new ≡ live old

-- no block of the one list is in the other
abbrev pub Apart : List ℕ → List ℕ → Type 0
Apart [] others = Unit {0}
Apart (block ∷ blocks) others = Absent block others × Apart blocks others

-- the blocks make one row of cells, whose places can be counted
pub record IsRow (pool : Pooled) (blocks : List ℕ) : Type 0 where
  pub live : AllLive pool blocks
  pub distinct : Distinct blocks
  pub countable : 256 * length blocks < 2 ^ 64

-- no block of the list is in the pool
abbrev pub AllGone : Pooled → List ℕ → Type 0
AllGone pool [] = Unit {0}
AllGone pool (block ∷ blocks) = (cells_at pool block ≡ None) × AllGone pool blocks
