-- A text: blocks of a pool with a gap among their cells. Its characters are read from the cells outside the
-- gap.
use Rattle.std.specs.Prelude.{ℕ, ◌+◌, ◌*◌, ◌^◌, ◌<◌, ◌≤◌, List, ◌++◌, length, take, drop}
use Rattle.text_model.specs.Characters.{Ch}
use Rattle.ek_types.specs.Seen.{AreCodes, characters_of}
use Rattle.text_pool.specs.Pool.{Pooled}
use Rattle.gap_text.specs.Blocks.{cells_of, Distinct, AllLive}

-- a text by itself: its blocks in its own order, the cell at which the gap starts, and how many cells the
-- gap has
pub record Gapped : Type 0 where
  pub blocks : List ℕ
  pub gap : ℕ
  pub spare : ℕ

-- a list without a gap of this size at this place
abbrev pub without_gap : (gap spare : ℕ) → List ℕ → List ℕ
without_gap gap spare found = take gap found ++ drop (gap + spare) found

-- what the cells outside the gap hold
abbrev pub codes : Pooled → Gapped → List ℕ
codes pool text = without_gap text.gap text.spare (cells_of pool text.blocks)

-- the characters of a text together with its pool
abbrev pub characters : Pooled → Gapped → List Ch
characters pool text = characters_of (codes pool text)

-- the gap lies among the cells
abbrev pub GapFits : Gapped → Type 0
GapFits text = text.gap + text.spare ≤ 256 * length text.blocks

-- the text lies in this pool: its blocks are live there, and each cell outside the gap holds a character
pub record LiesIn (pool : Pooled) (text : Gapped) : Type 0 where
  pub blocks : AllLive pool text.blocks
  pub gap : GapFits text
  pub codes : AreCodes (codes pool text)

-- what holds of each text, in whatever pool
pub record IsGapped (text : Gapped) : Type 0 where
  pub distinct : Distinct text.blocks
  pub gap : GapFits text
  pub countable : 256 * length text.blocks < 2 ^ 64
