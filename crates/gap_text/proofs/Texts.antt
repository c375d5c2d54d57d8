-- What the calls of a text do to its codes and characters.
use Rattle.std.proofs.Common.{◌≡◌, ℕ, ◌+◌, ◌-◌, ◌*◌, ◌<◌, ◌≤◌, List, ◌++◌, length, get_or, take, drop, map, filter_map, refl, sym, ap, ◌∙◌, subst, arith, append_assoc}
use Rattle.std.proofs.lemmas.List.{length-append, length-take-le, length-drop, take_at, drop_at, drop-append-le, take-append-drop, take-take, get_or_append_left, get_or-append_right, get_or-take, get_or-drop}
use Rattle.std.proofs.lemmas.List.Elements.{filter_map-append}
use Rattle.std.proofs.Math.Seq.{take-append-add}
use Rattle.text_model.specs.Characters.{Ch, code, from_code}
use Rattle.ek_types.specs.Seen.{AreCharacters, AreCodes}
use Rattle.text_pool.specs.Pool.{Pooled}
use Rattle.gap_text.specs.Blocks.{cells_of, IsRow}
use Rattle.gap_text.specs.Text.{Gapped, without_gap, codes, characters, LiesIn, IsGapped}
use Rattle.gap_text.proofs.Rows.{length_row}
use Rattle.gap_text.proofs.Gaps.{gap_widens, part_before_gap, rest_behind_gap}
use Rattle.ek_types.proofs.Readings.{length-read, take-read, drop-read, filter_map-code, are_codes_then, are_codes_front, are_codes_back, are_codes_of, part_of_read}

length-without_gap : (found : List ℕ) (p s : ℕ) → p + s ≤ length found → length (without_gap p s found) + s ≡ length found
length-without_gap found p s h =
    let front : length (take p found) ≡ p = length-take-le p found (omega arith) in
    omega (arith, length-append (take p found) (drop (p + s) found), length-drop (p + s) found)

pub length_codes : (pool : Pooled) (text : Gapped) → LiesIn pool text → length (codes pool text) + text.spare ≡ 256 * length text.blocks
length_codes pool text lies =
    let row : length (cells_of pool text.blocks) ≡ 256 * length text.blocks = length_row pool text.blocks lies.blocks in
    let fits : text.gap + text.spare ≤ 256 * length text.blocks = lies.gap in
    length-without_gap (cells_of pool text.blocks) text.gap text.spare (omega arith) ∙ row

-- length and spare make up the blocks
pub length_characters : (pool : Pooled) (text : Gapped) → LiesIn pool text → length (characters pool text) + text.spare ≡ 256 * length text.blocks
length_characters pool text lies = ap (λ n. n + text.spare) (length-read (codes pool text) lies.codes) ∙ length_codes pool text lies

pub get_or-before_gap : (found : List ℕ) (p s i : ℕ) → p + s ≤ length found → i < p → get_or (without_gap p s found) i 0 ≡ get_or found i 0
get_or-before_gap found p s i h l =
    let front : length (take p found) ≡ p = length-take-le p found (omega arith) in
    get_or_append_left (take p found) (drop (p + s) found) 0 i (omega arith) ∙ get_or-take p found i 0 l

pub get_or-behind_gap : (found : List ℕ) (p s i : ℕ) → p + s ≤ length found → p ≤ i → get_or (without_gap p s found) i 0 ≡ get_or found (i + s) 0
get_or-behind_gap found p s i h l =
    let front : length (take p found) ≡ p = length-take-le p found (omega arith) in
    let at : p + s + (i - p) ≡ i + s = omega arith in
    get_or-append_right (take p found) (drop (p + s) found) p i 0 front l ∙ get_or-drop (p + s) found (i - p) 0 ∙ ap (λ k. get_or found k 0) at

-- a text in place of a part, read as characters
pub spliced : (old new : List ℕ) (from to : ℕ) (text : List Ch) → AreCodes old → AreCharacters text → new ≡ take from old ++ (map code text ++ drop to old)
    → AreCodes new × (filter_map from_code new ≡ take from (filter_map from_code old) ++ (text ++ drop to (filter_map from_code old)))
spliced old new from to text h k e =
    let whole : AreCodes (take from old ++ (map code text ++ drop to old)) =
    are_codes_then (take from old) (map code text ++ drop to old) (are_codes_front from old h) (are_codes_then (map code text) (drop to old) (are_codes_of text k) (are_codes_back to old h)) in (
      subst AreCodes (sym e) whole,
      ap (λ cs. filter_map from_code cs) e
          ∙ rw (filter_map-append from_code (take from old) (map code text ++ drop to old), filter_map-append from_code (map code text) (drop to old), take-read from old h, drop-read to old h, filter_map-code text k) refl,
    )

-- a text without a part, read as characters
pub cut_out : (old new : List ℕ) (from to : ℕ) → AreCodes old → new ≡ take from old ++ drop to old
    → AreCodes new × (filter_map from_code new ≡ take from (filter_map from_code old) ++ drop to (filter_map from_code old))
cut_out old new from to h e =
    let whole : AreCodes (take from old ++ drop to old) = are_codes_then (take from old) (drop to old) (are_codes_front from old h) (are_codes_back to old h) in (
      subst AreCodes (sym e) whole,
      ap (λ cs. filter_map from_code cs) e ∙ rw (filter_map-append from_code (take from old) (drop to old), take-read from old h, drop-read to old h) refl,
    )

-- what is written into a gap stands between what was before it and behind it
pub filled : (cells new : List ℕ) (i spare count : ℕ) (text : List ℕ) → i + spare ≤ length cells → count ≤ spare
    → take (i + count) new ≡ take i cells ++ text → ((k : ℕ) → i + count ≤ k → drop k new ≡ drop k cells)
    → without_gap (i + count) (spare - count) new ≡ take i (without_gap i spare cells) ++ (text ++ drop i (without_gap i spare cells))
filled cells new i spare count text fits room written behind =
    let n : length (take i cells) ≡ i = length-take-le i cells (omega arith) in
    let front : take i (take i cells ++ drop (i + spare) cells) ≡ take i cells = take_at (take i cells) (drop (i + spare) cells) i n in
    let back : drop i (take i cells ++ drop (i + spare) cells) ≡ drop (i + spare) cells = drop_at (take i cells) (drop (i + spare) cells) i n in
    let end : i + count + (spare - count) ≡ i + spare = omega arith in
    let rest : drop (i + spare) new ≡ drop (i + spare) cells = behind (i + spare) (omega arith) in
    rw (written, end, rest, front, back) (append_assoc (take i cells) text (drop (i + spare) cells))

-- more characters copied
pub part_grows : (text : List Ch) (from i n : ℕ) → from ≤ i → i ≤ length text → drop from (take (i + n) text) ≡ drop from (take i text) ++ take n (drop i text)
part_grows text from i n h l =
    let front : length (take i text) ≡ i = length-take-le i text l in
    let whole : take i text ++ drop i text ≡ text = take-append-drop i text in
    let cut : take (i + n) text ≡ take i text ++ take n (drop i text) = ap (λ t. take (i + n) t) (sym whole)
    ∙ ap (λ k. take (k + n) (take i text ++ drop i text)) (sym front) ∙ take-append-add (take i text) (drop i text) n in
    ap (λ t. drop from t) cut ∙ drop-append-le from (take i text) (take n (drop i text)) (omega arith)

-- a front of the codes that are lent is that of the characters there
pub lent_front : (xs lent : List ℕ) (at n : ℕ) → AreCodes xs → lent ≡ map code (take (length lent) (drop at (filter_map from_code xs))) → n ≤ length lent
    → AreCodes (take n lent) × (filter_map from_code (take n lent) ≡ take n (drop at (filter_map from_code xs)))
lent_front xs lent at n h e l =
    let part : lent ≡ take (length lent) (drop at xs) = e ∙ sym (part_of_read at (length lent) xs h) in
    let front : take n lent ≡ take n (drop at xs) = ap (λ t. take n t) part ∙ take-take n (length lent) (drop at xs) l in
    let behind : AreCodes (drop at xs) = are_codes_back at xs h in (
      subst AreCodes (sym front) (are_codes_front n (drop at xs) behind),
      ap (λ t. filter_map from_code t) front ∙ take-read n (drop at xs) behind ∙ ap (λ t. take n t) (drop-read at xs h),
    )

-- a text in a pool with these characters
pub record Spliced (pool : Pooled) (text : Gapped) (expected : List Ch) : Type 0 where
  pub lies : LiesIn pool text
  pub is : characters pool text ≡ expected

-- the fields of an opened text
abbrev pub made : (blocks : List ℕ) (gap spare : ℕ) → Gapped
made blocks gap spare = record { blocks = blocks; gap = gap; spare = spare }

-- the gap of a text was moved
pub record Moved (first middle : Pooled) (blocks : List ℕ) (gap spare to : ℕ) : Type 0 where
  pub kept : without_gap to spare (cells_of middle blocks) ≡ without_gap gap spare (cells_of first blocks)
  pub row : IsRow middle blocks

-- a text was written into the gap
pub record Written (middle last : Pooled) (blocks : List ℕ) (i : ℕ) (text : List Ch) : Type 0 where
  pub written : take (i + length text) (cells_of last blocks) ≡ take i (cells_of middle blocks) ++ map code text
  pub behind : (k : ℕ) → i + length text ≤ k → drop k (cells_of last blocks) ≡ drop k (cells_of middle blocks)
  pub characters : AreCharacters text
  pub row : IsRow last blocks

pub inserted : (first middle last : Pooled) (t : Gapped) (i count : ℕ) (text : List Ch) → count ≡ length text → LiesIn first t → i ≤ length (characters first t) → length text ≤ t.spare
    → Moved first middle t.blocks t.gap t.spare i → Written middle last t.blocks i text
    → Spliced last (made t.blocks (i + count) (t.spare - count)) (take i (characters first t) ++ (text ++ drop i (characters first t)))
inserted first middle last t i count text n lies place room m w =
    let total : length (characters first t) + t.spare ≡ 256 * length t.blocks = length_characters first t lies in
    let cells : length (cells_of middle t.blocks) ≡ 256 * length t.blocks = length_row middle t.blocks m.row.live in
    let read : without_gap (i + length text) (t.spare - length text) (cells_of last t.blocks) ≡ take i (without_gap i t.spare (cells_of middle t.blocks)) ++ (map code text ++ drop i (without_gap i t.spare (cells_of middle t.blocks))) =
    filled (cells_of middle t.blocks) (cells_of last t.blocks) i t.spare (length text) (map code text) (omega arith) room w.written w.behind in
    let as_codes : without_gap (i + count) (t.spare - count) (cells_of last t.blocks) ≡ take i (codes first t) ++ (map code text ++ drop i (codes first t)) =
    ap (λ k. without_gap (i + k) (t.spare - k) (cells_of last t.blocks)) n ∙ read ∙ ap (λ cs. take i cs ++ (map code text ++ drop i cs)) m.kept in
    let both = spliced (codes first t) (without_gap (i + count) (t.spare - count) (cells_of last t.blocks)) i i text lies.codes w.characters as_codes in
    record { lies = record { blocks = w.row.live; gap = omega arith; codes = both.0 }; is = both.1 }

pub deleted : (first last : Pooled) (t : Gapped) (from to place : ℕ) → LiesIn first t → from ≤ to → to ≤ length (characters first t) → from ≤ place → place ≤ to
    → Moved first last t.blocks t.gap t.spare place
    → Spliced last (made t.blocks from (t.spare + (to - from))) (take from (characters first t) ++ drop to (characters first t))
deleted first last t from to place lies order range left right m =
    let total : length (characters first t) + t.spare ≡ 256 * length t.blocks = length_characters first t lies in
    let cells : length (cells_of last t.blocks) ≡ 256 * length t.blocks = length_row last t.blocks m.row.live in
    let as_codes : without_gap from (t.spare + (to - from)) (cells_of last t.blocks) ≡ take from (codes first t) ++ drop to (codes first t) =
    gap_widens (cells_of last t.blocks) place t.spare from to left right (omega arith) ∙ ap (λ cs. take from cs ++ drop to cs) m.kept in
    let both = cut_out (codes first t) (without_gap from (t.spare + (to - from)) (cells_of last t.blocks)) from to lies.codes as_codes in
    record { lies = record { blocks = m.row.live; gap = omega arith; codes = both.0 }; is = both.1 }

-- what each opened text knows of its numbers
pub record Numbers (pool : Pooled) (now t : Gapped) : Type 0 where
  pub lies : LiesIn pool t
  pub total : length (characters pool now) + t.spare ≡ 256 * length t.blocks
  pub row : IsRow pool t.blocks

pub numbers : (pool : Pooled) (now t : Gapped) → t ≡ now → LiesIn pool now → IsGapped t → Numbers pool now t
numbers pool now t is lies gapped = record {
  lies = subst (LiesIn pool) (sym is) lies;
  total = subst (λ (x : Gapped). length (characters pool now) + x.spare ≡ 256 * length x.blocks) (sym is) (length_characters pool now lies);
  row = record { live = (subst (LiesIn pool) (sym is) lies).blocks; distinct = gapped.distinct; countable = gapped.countable };
}

-- cells that are lent, in front of the gap and behind it
pub lent_before : (pool : Pooled) (text : Gapped) (at : ℕ) (found : List ℕ) → LiesIn pool text → at + length found ≤ text.gap
    → found ≡ take (length found) (drop at (cells_of pool text.blocks)) → found ≡ map code (take (length found) (drop at (characters pool text)))
lent_before pool text at found lies k is =
    let row : length (cells_of pool text.blocks) ≡ 256 * length text.blocks = length_row pool text.blocks lies.blocks in
    let fits : text.gap + text.spare ≤ 256 * length text.blocks = lies.gap in
    is ∙ sym (part_before_gap (cells_of pool text.blocks) text.gap text.spare at (length found) (omega arith) k)
    ∙ part_of_read at (length found) (codes pool text) lies.codes

pub lent_behind : (pool : Pooled) (text : Gapped) (at : ℕ) (found : List ℕ) → LiesIn pool text → text.gap ≤ at
    → found ≡ take (length found) (drop (at + text.spare) (cells_of pool text.blocks)) → found ≡ map code (take (length found) (drop at (characters pool text)))
lent_behind pool text at found lies k is =
    let row : length (cells_of pool text.blocks) ≡ 256 * length text.blocks = length_row pool text.blocks lies.blocks in
    let fits : text.gap + text.spare ≤ 256 * length text.blocks = lies.gap in
    is ∙ ap (take (length found)) (sym (rest_behind_gap (cells_of pool text.blocks) text.gap text.spare at (omega arith) k))
    ∙ part_of_read at (length found) (codes pool text) lies.codes
