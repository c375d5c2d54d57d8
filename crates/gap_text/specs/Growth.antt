-- A row that got more blocks.
use Rattle.std.specs.Prelude.{◌≡◌, ℕ, ◌+◌, ◌-◌, List, ◌++◌, length, take, drop}
use Rattle.text_pool.specs.Pool.{Pooled, cells_at, IsLive, live}
use Rattle.gap_text.specs.Blocks.{Absent, AllLive, Distinct, OnlyFresh, SameOutside}

-- a list with another one put into it at a place
abbrev pub put_at : (at : ℕ) → List ℕ → List ℕ → List ℕ
put_at at added blocks = take at blocks ++ (added ++ drop at blocks)

-- the pool gave so many blocks that were not live, and these make `after` with those of `before`
pub record Grown (old new : Pooled) (before after : List ℕ) (more : ℕ) : Type 0 where
  pub all_live : AllLive new after
  pub distinct : Distinct after
  pub fresh : OnlyFresh old before after
  pub kept : (number : ℕ) → Absent number after → Absent number before
  pub same : (number : ℕ) → IsLive old number → cells_at new number ≡ cells_at old number
  pub outside : SameOutside after old new
  pub spare : new.spare + more ≡ old.spare
  pub count : live new ≡ live old + more

-- these blocks, and so many others behind them
pub record Appended (before after : List ℕ) (more : ℕ) : Type 0 where
  pub added : List ℕ
  pub many : length added ≡ more
  pub items : after ≡ before ++ added

-- a list whose last elements were brought to a place
abbrev pub brought : (at more : ℕ) → List ℕ → List ℕ
brought at more blocks = put_at at (drop (length blocks - more) blocks) (take (length blocks - more) blocks)

-- these blocks, and so many others among them at a place
pub record Inserted (before after : List ℕ) (at more : ℕ) : Type 0 where
  pub added : List ℕ
  pub many : length added ≡ more
  pub items : after ≡ put_at at added before
