-- Texts whose blocks did not change, and texts that got blocks.
use Rattle.std.proofs.Common.{◌≡◌, ℕ, ◌+◌, ◌*◌, ◌/◌, ◌≤◌, List, [], ◌∷◌, ◌++◌, length, take, drop, filter_map, refl, sym, ap, ◌∙◌, subst, arith, None, slice_index_or}
use Rattle.std.proofs.lemmas.List.{length-append, length-take-le, take-append-drop}
use Rattle.std.proofs.lemmas.List.Concat.{flat_map-append}
use Rattle.text_model.specs.Characters.{from_code}
use Rattle.text_pool.specs.Pool.{Pooled, cells_at, cells, IsLive}
use Rattle.gap_text.specs.Blocks.{cells_of, AllLive, Apart, SameOutside}
use Rattle.gap_text.specs.Growth.{Grown, Inserted, put_at}
use Rattle.ek_types.specs.Seen.{AreCodes}
use Rattle.gap_text.specs.Text.{Gapped, without_gap, codes, characters, LiesIn}
use Rattle.gap_text.proofs.BlockLemmas.{apart_nil, live_split}
use Rattle.gap_text.proofs.Rows.{length_row, same_cells}
use Rattle.gap_text.proofs.Gaps.{gap_grows}
use Rattle.gap_text.proofs.Texts.{made, Moved}

pub live_elsewhere : (old new : Pooled) (blocks changed : List ℕ) → SameOutside changed old new → Apart blocks changed → AllLive old blocks → AllLive new blocks
live_elsewhere old new [] changed same apart live = tt
live_elsewhere old new (block ∷ blocks) changed same apart live =
    (rw (same block apart.0) live.0, live_elsewhere old new blocks changed same apart.1 live.1)

-- the same codes in another pool
pub record SameText (old new : Pooled) (before after : Gapped) : Type 0 where
  pub lies : LiesIn new after
  pub codes : codes new after ≡ codes old before

pub same_characters : (old new : Pooled) (before after : Gapped) → SameText old new before after → characters new after ≡ characters old before
same_characters old new before after same = ap (λ cs. filter_map from_code cs) same.codes

-- a text none of whose blocks changed
pub text_elsewhere : (old new : Pooled) (text : Gapped) (changed : List ℕ) → SameOutside changed old new → Apart text.blocks changed → LiesIn old text → SameText old new text text
text_elsewhere old new text changed same apart lies =
    let e : codes new text ≡ codes old text = ap (λ found. without_gap text.gap text.spare found) (same_cells old new text.blocks changed same apart) in
    record {
      lies = record {
        blocks = live_elsewhere old new text.blocks changed same apart lies.blocks;
        gap = lies.gap;
        codes = subst AreCodes (sym e) lies.codes;
      };
      codes = e;
    }

pub same_slots : (old new : Pooled) → new.slots ≡ old.slots → SameOutside [] old new
same_slots old new e number a = ap (λ slots. slice_index_or slots number None) e

pub text_at_same_slots : (old new : Pooled) (text : Gapped) → new.slots ≡ old.slots → LiesIn old text → SameText old new text text
text_at_same_slots old new text e lies = text_elsewhere old new text [] (same_slots old new e) (apart_nil text.blocks) lies

pub same_live_cells : (old new : Pooled) (blocks : List ℕ) → ((number : ℕ) → IsLive old number → cells_at new number ≡ cells_at old number) → AllLive old blocks → cells_of new blocks ≡ cells_of old blocks
same_live_cells old new [] same live = refl
same_live_cells old new (block ∷ blocks) same live =
    rw (same block live.0, same_live_cells old new blocks same live.1) refl

-- the cells of a row with blocks put in where the gap starts
put_cells : (old new : Pooled) (blocks added : List ℕ) (at more s : ℕ) → at ≤ length blocks → length added ≡ more → AllLive old blocks → AllLive new (put_at at added blocks)
    → ((number : ℕ) → IsLive old number → cells_at new number ≡ cells_at old number)
    → without_gap (at * 256) (s + more * 256) (cells_of new (put_at at added blocks)) ≡ without_gap (at * 256) s (cells_of old blocks)
put_cells old new blocks added at more s place many live live_after same =
    let whole : take at blocks ++ drop at blocks ≡ blocks = take-append-drop at blocks in
    let parts = live_split old (take at blocks) (drop at blocks) (subst (AllLive old) (sym whole) live) in
    let added_live : AllLive new added = (live_split new added (drop at blocks) (live_split new (take at blocks) (added ++ drop at blocks) live_after).1).0 in
    let n : length (take at blocks) ≡ at = length-take-le at blocks place in
    let front : length (cells_of old (take at blocks)) ≡ at * 256 = omega (arith, length_row old (take at blocks) parts.0) in
    let middle : length (cells_of new added) ≡ more * 256 = omega (arith, length_row new added added_live) in
    let old_cells : cells_of old blocks ≡ cells_of old (take at blocks) ++ cells_of old (drop at blocks) =
    ap (λ b. cells_of old b) (sym whole) ∙ flat_map-append (cells old) (take at blocks) (drop at blocks) in
    let new_cells : cells_of new (put_at at added blocks) ≡ cells_of old (take at blocks) ++ (cells_of new added ++ cells_of old (drop at blocks)) =
    flat_map-append (cells new) (take at blocks) (added ++ drop at blocks)
    ∙ rw (flat_map-append (cells new) added (drop at blocks), same_live_cells old new (take at blocks) same parts.0, same_live_cells old new (drop at blocks) same parts.1) refl in
    ap (λ found. without_gap (at * 256) (s + more * 256) found) new_cells
    ∙ gap_grows (cells_of old (take at blocks)) (cells_of new added) (cells_of old (drop at blocks)) (at * 256) s (more * 256) front middle
    ∙ ap (λ found. without_gap (at * 256) s found) (sym old_cells)

pub text_grown : (first room middle last : Pooled) (text : Gapped) (after : List ℕ) (more : ℕ) → LiesIn first text → room.slots ≡ first.slots
    → Moved room middle text.blocks text.gap text.spare (text.gap / 256 * 256) → Grown middle last text.blocks after more → Inserted text.blocks after (text.gap / 256) more
    → SameText first last text (made after (text.gap / 256 * 256) (text.spare + more * 256))
text_grown first room middle last text after more lies slots moved grown inserted =
    let at : ℕ = text.gap / 256 in
    let fits : text.gap + text.spare ≤ 256 * length text.blocks = lies.gap in
    let place : text.gap / 256 ≤ length text.blocks = omega arith in
    let live_after : AllLive last (put_at at inserted.added text.blocks) = subst (AllLive last) inserted.items grown.all_live in
    let put : without_gap (at * 256) (text.spare + more * 256) (cells_of last (put_at at inserted.added text.blocks)) ≡ without_gap (at * 256) text.spare (cells_of middle text.blocks) =
    put_cells middle last text.blocks inserted.added at more text.spare place inserted.many moved.row.live live_after grown.same in
    let e : codes last (made after (at * 256) (text.spare + more * 256)) ≡ codes first text =
    ap (λ b. without_gap (at * 256) (text.spare + more * 256) (cells_of last b)) inserted.items ∙ put ∙ moved.kept ∙ (text_at_same_slots first room text slots lies).codes in
    let whole : length (take at text.blocks ++ drop at text.blocks) ≡ length text.blocks = ap length (take-append-drop at text.blocks) in
    let size : length after ≡ length text.blocks + more =
    omega (arith, ap length inserted.items, length-append (take at text.blocks) (inserted.added ++ drop at text.blocks), length-append inserted.added (drop at text.blocks), inserted.many, length-append (take at text.blocks) (drop at text.blocks)) in
    record {
      lies = record { blocks = grown.all_live; gap = omega arith; codes = subst AreCodes (sym e) lies.codes };
      codes = e;
    }
