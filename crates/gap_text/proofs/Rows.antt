-- The cells of a list of blocks as one row.
use Rattle.std.proofs.Common.{◌/◌, ◌%◌, ⊎_elim, ◌≡◌, ◌≢◌, ℕ, zero, suc, ◌+◌, ◌-◌, ◌*◌, ◌<◌, ◌≤◌, List, [], ◌∷◌, ◌++◌, length, get_or, take, drop, flat_map, refl, sym, ap, ◌∙◌, subst, arith, append_assoc, unwrap_or, IsSomeAnd, Option, Some, None}
use lib.Seq.{paste}
use Rattle.std.proofs.lemmas.List.{length-append, length-drop, length-take-le, get_or_append_left, get_or-append_right, take-append-le, drop-append-le}
use Rattle.gap_text.proofs.Gaps.{drop_past, take_past}
use Rattle.text_pool.specs.Pool.{Pooled, cells_at, cells, IsLive, live, SameOthers}
use Rattle.std.proofs.lemmas.Bool.{cases_eq}
use Rattle.gap_text.specs.Blocks.{cells_of, Absent, Distinct, AllLive, SameOutside, Apart}

length_found : (o : Option (List ℕ)) → IsSomeAnd o (λ found. length found ≡ 256) → length (unwrap_or o []) ≡ 256
length_found None h = absurd h
length_found (Some found) h = h

pub length_live : (pool : Pooled) (block : ℕ) → IsLive pool block → length (cells pool block) ≡ 256
length_live pool block h = length_found (cells_at pool block) h

pub live_at : (pool : Pooled) (blocks : List ℕ) (q d : ℕ) → AllLive pool blocks → q < length blocks → IsLive pool (get_or blocks q d)
live_at pool [] q d h l = absurd (omega arith)
live_at pool (block ∷ blocks) zero d h l = h.0
live_at pool (block ∷ blocks) (suc q) d h l = live_at pool blocks q d h.1 (omega arith)

pub length_row : (pool : Pooled) (blocks : List ℕ) → AllLive pool blocks → length (cells_of pool blocks) ≡ 256 * length blocks
length_row pool [] h = refl
length_row pool (block ∷ blocks) h =
    omega (arith, length-append (cells pool block) (cells_of pool blocks), length_live pool block h.0, length_row pool blocks h.1)

-- the cell at a place is one of the block that has this place
pub get_or-row : (pool : Pooled) (blocks : List ℕ) (q r place d : ℕ) → AllLive pool blocks → q < length blocks → r < 256 → place ≡ 256 * q + r
    → get_or (cells_of pool blocks) place 0 ≡ get_or (cells pool (get_or blocks q d)) r 0
get_or-row pool [] q r place d h l k e = absurd (omega arith)
get_or-row pool (block ∷ blocks) zero r place d h l k e =
    let same : place ≡ r = omega arith in
    let full : length (cells pool block) ≡ 256 = length_live pool block h.0 in
    rw same (get_or_append_left (cells pool block) (cells_of pool blocks) 0 r (omega arith))
get_or-row pool (block ∷ blocks) (suc q) r place d h l k e =
    let full : length (cells pool block) ≡ 256 = length_live pool block h.0 in
    get_or-append_right (cells pool block) (cells_of pool blocks) 256 place 0 full (omega arith)
    ∙ get_or-row pool blocks q r (place - 256) d h.1 (omega arith) k (omega arith)

pub absent_at : (number : ℕ) (blocks : List ℕ) (q d : ℕ) → Absent number blocks → q < length blocks → number ≢ get_or blocks q d
absent_at number [] q d a l = absurd (omega arith)
absent_at number (block ∷ blocks) zero d a l = a.0
absent_at number (block ∷ blocks) (suc q) d a l = absent_at number blocks q d a.1 (omega arith)

-- a function of blocks that are apart from the changed ones
pub flat_map_same : (f g : ℕ → List ℕ) (blocks : List ℕ) (number : ℕ) → Absent number blocks → ((other : ℕ) → other ≢ number → g other ≡ f other) → flat_map g blocks ≡ flat_map f blocks
flat_map_same f g [] number a same = refl
flat_map_same f g (block ∷ blocks) number a same =
    rw (same block (λ e. a.0 (sym e)), flat_map_same f g blocks number a.1 same) refl

-- a part of the row that lies in one block
pub part-row : (pool : Pooled) (blocks : List ℕ) (q r place n d : ℕ) → AllLive pool blocks → q < length blocks → r + n ≤ 256 → place ≡ 256 * q + r
    → take n (drop place (cells_of pool blocks)) ≡ take n (drop r (cells pool (get_or blocks q d)))
part-row pool [] q r place n d h l k e = absurd (omega arith)
part-row pool (block ∷ blocks) zero r place n d h l k e =
    let at : place ≡ r = omega arith in
    let full : length (cells pool block) ≡ 256 = length_live pool block h.0 in
    let left : length (drop r (cells pool block)) ≡ length (cells pool block) - r = length-drop r (cells pool block) in
    rw at (ap (take n) (drop-append-le r (cells pool block) (cells_of pool blocks) (omega arith)) ∙ take-append-le n (drop r (cells pool block)) (cells_of pool blocks) (omega arith))
part-row pool (block ∷ blocks) (suc q) r place n d h l k e =
    let full : length (cells pool block) ≡ 256 = length_live pool block h.0 in
    ap (take n) (drop_past (cells pool block) (cells_of pool blocks) 256 place full (omega arith))
    ∙ part-row pool blocks q r (place - 256) n d h.1 (omega arith) k (omega arith)

-- a part of one block is written over
pub over-row : (f g : ℕ → List ℕ) (blocks part : List ℕ) (q r place n d : ℕ) → Distinct blocks → q < length blocks → r + n ≤ 256 → place ≡ 256 * q + r
    → ((k : ℕ) → k < length blocks → length (f (get_or blocks k d)) ≡ 256)
    → g (get_or blocks q d) ≡ take r (f (get_or blocks q d)) ++ part ++ drop (r + n) (f (get_or blocks q d))
    → ((other : ℕ) → other ≢ get_or blocks q d → g other ≡ f other)
    → flat_map g blocks ≡ take place (flat_map f blocks) ++ part ++ drop (place + n) (flat_map f blocks)
over-row f g [] part q r place n d u l k e full here same = absurd (omega arith)
over-row f g (block ∷ blocks) part zero r place n d u l k e full here same =
    let at : place ≡ r = omega arith in
    let whole : length (f block) ≡ 256 = full 0 (omega arith) in
    let front : take r (f block ++ flat_map f blocks) ≡ take r (f block) = take-append-le r (f block) (flat_map f blocks) (omega arith) in
    let back : drop (r + n) (f block ++ flat_map f blocks) ≡ drop (r + n) (f block) ++ flat_map f blocks = drop-append-le (r + n) (f block) (flat_map f blocks) (omega arith) in
    rw (at, front, back, here, flat_map_same f g blocks block u.0 same) (append_assoc (take r (f block) ++ part) (drop (r + n) (f block)) (flat_map f blocks))
over-row f g (block ∷ blocks) part (suc q) r place n d u l k e full here same =
    let whole : length (f block) ≡ 256 = full 0 (omega arith) in
    let on : place + n - 256 ≡ place - 256 + n = omega arith in
    let front : take place (f block ++ flat_map f blocks) ≡ f block ++ take (place - 256) (flat_map f blocks) = take_past (f block) (flat_map f blocks) 256 place whole (omega arith) in
    let back : drop (place + n) (f block ++ flat_map f blocks) ≡ drop (place - 256 + n) (flat_map f blocks) = drop_past (f block) (flat_map f blocks) 256 (place + n) whole (omega arith) ∙ ap (λ k. drop k (flat_map f blocks)) on in
    let rest = over-row f g blocks part q r (place - 256) n d u.1 (omega arith) k (omega arith) (λ j h. full (suc j) (omega arith)) here same in
    rw (same block (absent_at block blocks q d u.0 (omega arith)), front, back, rest)
    (sym (ap (λ xs. xs ++ drop (place - 256 + n) (flat_map f blocks)) (append_assoc (f block) (take (place - 256) (flat_map f blocks)) part)
    ∙ append_assoc (f block) (take (place - 256) (flat_map f blocks) ++ part) (drop (place - 256 + n) (flat_map f blocks))))

-- blocks that don't change have the same cells
pub same_cells : (old new : Pooled) (blocks changed : List ℕ) → SameOutside changed old new → Apart blocks changed → cells_of new blocks ≡ cells_of old blocks
same_cells old new [] changed s a = refl
same_cells old new (block ∷ blocks) changed s a =
    rw (s block a.0, same_cells old new blocks changed s a.1) refl

-- THE BLOCK THAT HAS A PLACE
pub record Holds (blocks : List ℕ) (place block : ℕ) : Type 0 where
  pub is : block ≡ get_or blocks (place / 256) block
  pub range : place < 256 * length blocks

pub block_live : (pool : Pooled) (blocks : List ℕ) (place block : ℕ) → Holds blocks place block → AllLive pool blocks → IsLive pool block
block_live pool blocks place block h live =
    let range : place < 256 * length blocks = h.range in
    subst (IsLive pool) (sym h.is) (live_at pool blocks (place / 256) block live (omega arith))

pub read_row : (pool : Pooled) (blocks : List ℕ) (place block : ℕ) → Holds blocks place block → AllLive pool blocks
    → get_or (cells_of pool blocks) place 0 ≡ get_or (cells pool block) (place % 256) 0
read_row pool blocks place block h live =
    let range : place < 256 * length blocks = h.range in
    get_or-row pool blocks (place / 256) (place % 256) place block live (omega arith) (omega arith) (omega arith)
    ∙ ap (λ b. get_or (cells pool b) (place % 256) 0) (sym h.is)

-- a part of the block that has a place, from there on
pub lent_row : (pool : Pooled) (blocks found : List ℕ) (place block n : ℕ) → Holds blocks place block → AllLive pool blocks → place % 256 + n ≤ 256
    → found ≡ cells pool block
    → take n (drop (place % 256) found) ≡ take (length (take n (drop (place % 256) found))) (drop place (cells_of pool blocks))
lent_row pool blocks found place block n h live fits is =
    let range : place < 256 * length blocks = h.range in
    let full : length (cells pool block) ≡ 256 = length_live pool block (block_live pool blocks place block h live) in
    let same : length found ≡ 256 = ap length is ∙ full in
    let left : length (drop (place % 256) found) ≡ length found - place % 256 = length-drop (place % 256) found in
    let size : length (take n (drop (place % 256) found)) ≡ n = length-take-le n (drop (place % 256) found) (omega arith) in
    rw size
    (sym (part-row pool blocks (place / 256) (place % 256) place n block live (omega arith) (omega arith) (omega arith)
    ∙ ap (λ b. take n (drop (place % 256) (cells pool b))) (sym h.is)
    ∙ ap (λ xs. take n (drop (place % 256) xs)) (sym is)))

pub absent_differs : (blocks : List ℕ) (place block number : ℕ) → Holds blocks place block → Absent number blocks → number ≢ block
absent_differs blocks place block number h a e =
    let range : place < 256 * length blocks = h.range in
    absent_at number blocks (place / 256) block a (omega arith) (e ∙ h.is)

same_full : (pool : Pooled) (blocks : List ℕ) (d k : ℕ) → AllLive pool blocks → k < length blocks → length (cells pool (get_or blocks k d)) ≡ 256
same_full pool blocks d k live l = length_live pool (get_or blocks k d) (live_at pool blocks k d live l)

-- cells of one block are copied over those of another, or of the same one
pub copy_row : (old new : Pooled) (blocks : List ℕ) (from to source target count : ℕ) → Holds blocks from source → Holds blocks to target → AllLive old blocks → Distinct blocks
    → from % 256 + count ≤ 256 → to % 256 + count ≤ 256
    → cells new target ≡ take (to % 256) (cells old target) ++ take count (drop (from % 256) (cells old source)) ++ drop (to % 256 + count) (cells old target)
    → SameOthers old new target
    → cells_of new blocks ≡ paste (cells_of old blocks) to (drop from (cells_of old blocks)) count
copy_row old new blocks from to source target count s t live distinct from_fits to_fits here same =
    let source_range : from < 256 * length blocks = s.range in
    let target_range : to < 256 * length blocks = t.range in
    let part : take count (drop from (cells_of old blocks)) ≡ take count (drop (from % 256) (cells old source))
    = part-row old blocks (from / 256) (from % 256) from count source live (omega arith) (omega arith) (omega arith)
    ∙ ap (λ b. take count (drop (from % 256) (cells old b))) (sym s.is) in
    rw part
    (over-row (cells old) (cells new) blocks (take count (drop (from % 256) (cells old source))) (to / 256) (to % 256) to count target distinct (omega arith) (omega arith) (omega arith)
    (λ k l. same_full old blocks target k live l)
    (subst (λ b. cells new b ≡ take (to % 256) (cells old b) ++ take count (drop (from % 256) (cells old source)) ++ drop (to % 256 + count) (cells old b)) t.is here)
    (λ other ne. ap (λ o. unwrap_or o []) (same other (λ e. ne (e ∙ t.is)))))

-- cells of one block are written over
pub over_one_block : (old new : Pooled) (blocks values : List ℕ) (place block : ℕ) → Holds blocks place block → AllLive old blocks → Distinct blocks
    → place % 256 + length values ≤ 256
    → cells new block ≡ take (place % 256) (cells old block) ++ values ++ drop (place % 256 + length values) (cells old block)
    → SameOthers old new block
    → cells_of new blocks ≡ take place (cells_of old blocks) ++ values ++ drop (place + length values) (cells_of old blocks)
over_one_block old new blocks values place block h live distinct fits here same =
    let range : place < 256 * length blocks = h.range in
    over-row (cells old) (cells new) blocks values (place / 256) (place % 256) place (length values) block distinct (omega arith) (omega arith) (omega arith)
    (λ k l. same_full old blocks block k live l)
    (subst (λ b. cells new b ≡ take (place % 256) (cells old b) ++ values ++ drop (place % 256 + length values) (cells old b)) h.is here)
    (λ other ne. ap (λ o. unwrap_or o []) (same other (λ e. ne (e ∙ h.is))))

pub live_after : (old new : Pooled) (blocks : List ℕ) (block : ℕ) → IsLive new block → SameOthers old new block → AllLive old blocks → AllLive new blocks
live_after old new [] block here same live = tt
live_after old new (b ∷ blocks) block here same live = (
  ⊎_elim (λ e. subst (IsLive new) (sym e) here) (λ ne. rw (same b ne) live.0) (cases_eq b block),
  live_after old new blocks block here same live.1,
)
