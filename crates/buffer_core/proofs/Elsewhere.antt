-- Texts over blocks of their own, as those of another text change.
use Rattle.std.proofs.Common.{◌≡◌, ℕ, List, [], ◌∷◌, ◌++◌, length, filter_map, refl, sym, ap, subst, ◌∙◌}
use Rattle.std.specs.Prelude.{IsSomeAnd, unwrap_or}
use Rattle.text_model.specs.Characters.{from_code}
use Rattle.text_pool.specs.Pool.{Pooled, cells_at, cells, live}
use Rattle.gap_text.specs.Blocks.{cells_of, AllLive, Apart}
use Rattle.ek_types.specs.Seen.{AreCodes}
use Rattle.gap_text.specs.Text.{Gapped, without_gap, codes, characters, LiesIn}
use Rattle.buffer_core.specs.Blocks.{ChangesBlocks}

-- each of these blocks has the cells that it had
abbrev AllSame : Pooled → Pooled → List ℕ → Type 0
AllSame old new [] = Unit {0}
AllSame old new (block ∷ blocks) = (cells_at new block ≡ cells_at old block) × AllSame old new blocks

others_same : (before after blocks : List ℕ) (old new : Pooled) → ChangesBlocks before after old new → AllLive old blocks → Apart blocks before → AllSame old new blocks
others_same before after [] old new c live apart = tt
others_same before after (block ∷ blocks) old new c live apart = (c.others block live.0 apart.0, others_same before after blocks old new c live.1 apart.1)

live_still : (blocks : List ℕ) (old new : Pooled) → AllSame old new blocks → AllLive old blocks → AllLive new blocks
live_still [] old new same live = tt
live_still (block ∷ blocks) old new same live = (subst (λ found. IsSomeAnd found (λ cells. length cells ≡ 256)) (sym same.0) live.0, live_still blocks old new same.1 live.1)

cells_same : (blocks : List ℕ) (old new : Pooled) → AllSame old new blocks → cells_of new blocks ≡ cells_of old blocks
cells_same [] old new same = refl
cells_same (block ∷ blocks) old new same = ap (λ found. unwrap_or found [] ++ cells_of new blocks) same.0 ∙ ap (λ rest. cells old block ++ rest) (cells_same blocks old new same.1)

-- it lies in the pool as it did, and has the same characters
pub record StaysAs (old new : Pooled) (text : Gapped) : Type 0 where
  pub lies : LiesIn new text
  pub characters : characters new text ≡ characters old text

pub stays : (before after : List ℕ) (old new : Pooled) (text : Gapped) → ChangesBlocks before after old new → LiesIn old text → Apart text.blocks before → StaysAs old new text
stays before after old new text c lies apart =
    let same = others_same before after text.blocks old new c lies.blocks apart in
    let e : codes new text ≡ codes old text = ap (λ found. without_gap text.gap text.spare found) (cells_same text.blocks old new same) in
    record {
      lies = record { blocks = live_still text.blocks old new same lies.blocks; gap = lies.gap; codes = subst AreCodes (sym e) lies.codes };
      characters = ap (λ cs. filter_map from_code cs) e;
    }

-- blocks apart from those that a text had are apart from those that it has
pub still_apart : (before after blocks : List ℕ) (old new : Pooled) → ChangesBlocks before after old new → AllLive old blocks → Apart blocks before → Apart blocks after
still_apart before after [] old new c live apart = tt
still_apart before after (block ∷ blocks) old new c live apart = (c.fresh block live.0 apart.0, still_apart before after blocks old new c live.1 apart.1)
