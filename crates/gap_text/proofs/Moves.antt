-- The steps of the loops that move a gap and that write into it.
use Rattle.std.proofs.Common.{add-zero, sym, take-add, ◌≡◌, ℕ, ◌+◌, ◌-◌, ◌*◌, ◌≤◌, List, ◌++◌, length, take, drop, refl, ap, ◌∙◌, arith, append_assoc}
use lib.Seq.{paste}
use Rattle.std.proofs.lemmas.List.{append-nil, length-append, length-take-le}
use Rattle.std.proofs.lemmas.Slice.{drop-append-drop}
use Rattle.std.proofs.Math.Seq.{take-append_seam}
use Rattle.text_pool.specs.Pool.{Pooled}
use Rattle.gap_text.specs.Blocks.{cells_of, IsRow, ChangesCellsOf}
use Rattle.gap_text.specs.Text.{without_gap}
use Rattle.gap_text.proofs.Rows.{length_row}
use Rattle.gap_text.proofs.Gaps.{gap_moves_left, gap_moves_right}

pub no_change : (blocks : List ℕ) (pool : Pooled) → ChangesCellsOf blocks pool pool
no_change blocks pool = record { others = λ number a. refl; spare = refl; count = refl }

pub one_more_change : (blocks : List ℕ) (first middle last : Pooled) → ChangesCellsOf blocks first middle → ChangesCellsOf blocks middle last → ChangesCellsOf blocks first last
one_more_change blocks first middle last a b =
    record { others = λ number h. b.others number h ∙ a.others number h; spare = b.spare ∙ a.spare; count = b.count ∙ a.count }

-- the gap that stood at `gap` stands at `place`, and the rest is as it was
pub record Moving (blocks : List ℕ) (first pool : Pooled) (gap spare place : ℕ) : Type 0 where
  pub kept : without_gap place spare (cells_of pool blocks) ≡ without_gap gap spare (cells_of first blocks)
  pub row : IsRow pool blocks
  pub changes : ChangesCellsOf blocks first pool

pub starts_moving : (blocks : List ℕ) (pool : Pooled) (gap spare : ℕ) → IsRow pool blocks → Moving blocks pool pool gap spare gap
starts_moving blocks pool gap spare row = record { kept = refl; row = row; changes = no_change blocks pool }

pub moves_left : (blocks : List ℕ) (first middle last : Pooled) (gap spare place count : ℕ) → Moving blocks first middle gap spare place → count ≤ place → place + spare ≤ 256 * length blocks
    → (let old = cells_of middle blocks in cells_of last blocks ≡ paste old (place - count + spare) (drop (place - count) old) count) → IsRow last blocks → ChangesCellsOf blocks middle last
    → Moving blocks first last gap spare (place - count)
moves_left blocks first middle last gap spare place count m l fits e row changes =
    let len : length (cells_of middle blocks) ≡ 256 * length blocks = length_row middle blocks m.row.live in
    let back : place - count + count ≡ place = omega arith in
    let step : without_gap (place - count) spare (paste (cells_of middle blocks) (place - count + spare) (drop (place - count) (cells_of middle blocks)) count) ≡ without_gap (place - count + count) spare (cells_of middle blocks)
    = gap_moves_left (cells_of middle blocks) (place - count) spare count (omega arith) in
    record {
      kept = ap (λ found. without_gap (place - count) spare found) e ∙ step ∙ ap (λ p. without_gap p spare (cells_of middle blocks)) back ∙ m.kept;
      row = row;
      changes = one_more_change blocks first middle last m.changes changes;
    }

pub moves_right : (blocks : List ℕ) (first middle last : Pooled) (gap spare place count : ℕ) → Moving blocks first middle gap spare place → place + spare + count ≤ 256 * length blocks
    → (let old = cells_of middle blocks in cells_of last blocks ≡ paste old place (drop (place + spare) old) count) → IsRow last blocks → ChangesCellsOf blocks middle last
    → Moving blocks first last gap spare (place + count)
moves_right blocks first middle last gap spare place count m fits e row changes =
    let len : length (cells_of middle blocks) ≡ 256 * length blocks = length_row middle blocks m.row.live in
    let step : without_gap (place + count) spare (paste (cells_of middle blocks) place (drop (place + spare) (cells_of middle blocks)) count) ≡ without_gap place spare (cells_of middle blocks)
    = gap_moves_right (cells_of middle blocks) place spare count (omega arith) in
    record {
      kept = ap (λ found. without_gap (place + count) spare found) e ∙ step ∙ m.kept;
      row = row;
      changes = one_more_change blocks first middle last m.changes changes;
    }

-- the first of some codes are written from the place on
pub record Writing (blocks : List ℕ) (first pool : Pooled) (place : ℕ) (codes : List ℕ) (count : ℕ) : Type 0 where
  pub written : take (place + count) (cells_of pool blocks) ≡ take place (cells_of first blocks) ++ take count codes
  pub behind : (k : ℕ) → place + count ≤ k → drop k (cells_of pool blocks) ≡ drop k (cells_of first blocks)
  pub row : IsRow pool blocks
  pub changes : ChangesCellsOf blocks first pool

pub starts_writing : (blocks : List ℕ) (pool : Pooled) (place : ℕ) (codes : List ℕ) → IsRow pool blocks → Writing blocks pool pool place codes 0
starts_writing blocks pool place codes row = record {
  written = rw (add-zero place, append-nil (take place (cells_of pool blocks))) refl;
  behind = λ k h. refl;
  row = row;
  changes = no_change blocks pool;
}

-- some more codes are written
pub writes : (blocks : List ℕ) (first middle last : Pooled) (place : ℕ) (codes : List ℕ) (count n : ℕ) (part : List ℕ) → Writing blocks first middle place codes count
    → place + count + n ≤ 256 * length blocks → length part ≡ n → part ≡ take n (drop count codes)
    → cells_of last blocks ≡ take (place + count) (cells_of middle blocks) ++ part ++ drop (place + count + length part) (cells_of middle blocks) → IsRow last blocks → ChangesCellsOf blocks middle last
    → Writing blocks first last place codes (count + n)
writes blocks first middle last place codes count n part w fits size is e row changes =
    let old = cells_of middle blocks in
    let len : length old ≡ 256 * length blocks = length_row middle blocks w.row.live in
    let front : length (take (place + count) old) ≡ place + count = length-take-le (place + count) old (omega (arith, len, fits)) in
    let written : length (take (place + count) old ++ part) ≡ place + count + n = omega (arith, length-append (take (place + count) old) part, front, size) in
    let next : place + (count + n) ≡ length (take (place + count) old ++ part) = omega (arith, written) in
    let behind_them : place + count + length part ≡ length (take (place + count) old ++ part) = omega (arith, written, size) in
    record {
      written = ap (take (place + (count + n))) e ∙ ap (λ k. take k (take (place + count) old ++ part ++ drop (place + count + length part) old)) next
          ∙ take-append_seam (take (place + count) old ++ part) (drop (place + count + length part) old)
          ∙ ap (λ l. l ++ part) w.written ∙ ap (λ l. (take place (cells_of first blocks) ++ take count codes) ++ l) is
          ∙ append_assoc (take place (cells_of first blocks)) (take count codes) (take n (drop count codes))
          ∙ ap (λ l. take place (cells_of first blocks) ++ l) (sym (take-add count n codes));
      behind = λ k h. ap (drop k) e
          ∙ ap (λ j. drop k (take (place + count) old ++ part ++ drop j old)) behind_them
          ∙ drop-append-drop (length (take (place + count) old ++ part)) old (take (place + count) old ++ part) k (omega (arith, h, written)) refl
          ∙ w.behind k (omega (arith, h));
      row = row;
      changes = one_more_change blocks first middle last w.changes changes;
    }
