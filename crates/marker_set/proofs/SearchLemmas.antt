-- What a search over parts and slots finds is what the definitions say of the markers.
use Rattle.std.proofs.Common.{◌≡◌, ◌≢◌, ℕ, ◌+◌, ◌-◌, ◌<◌, ◌≤◌, inl, inr, ◌⊎◌, Bool, true, false, ◌==◌, ◌&&◌, nat_le, if◌then◌else◌, List, [], ◌∷◌, ◌++◌, length, take, map, get_or, All, Option, Some, None, option_map, refl, ap, subst, sym, ◌∙◌, zero-add, arith, IsPermutation}
use Rattle.std.specs.List.{filter_map, flat_map, enumerate_from, cons_option}
use Rattle.std.specs.List.Sorted.{IsNonDecreasing}
use Rattle.std.proofs.lemmas.Bool.{eq-eqb, ne_eqb, le-leb, lt-leb, and_left, and_right, cases_lt}
use Rattle.std.proofs.lemmas.List.{get_or_past, take_more, take_all}
use Rattle.std.proofs.lemmas.List.Elements.{All-head, All-tail, filter_map-append}
use Rattle.std.proofs.lemmas.List.FromFn.{length-enumerate_from, get_or-enumerate_from}
use Rattle.text_model.proofs.Rising.{count, one_here, times, total, rising_same, rises_from}
use Rattle.marker_set.specs.Numbered.{nowhere, numbered_if, spot_within, stands_within, numbers_within}
use Rattle.marker_set.specs.Blocks.{Block, cell_at, owner_of, spot_in, placed, Lies}
use Rattle.marker_set.specs.Homes.{no_block, no_slot, block_at, slot_at, owner_at, spot_at, marker_in, IsNotAlone, Kept}
use Rattle.marker_set.specs.Search.{number_between, found_in, home_within, alone_within}
use Rattle.marker_set.specs.declared.cell.Cell.{Cell}
use Rattle.marker_set.specs.declared.slot.Home.{Home}
use Rattle.marker_set.specs.declared.slot.Home.TheVariants.{Nowhere, Alone, Packed}
use Rattle.marker_set.specs.declared.slot.Slot.{Slot}
use Rattle.marker_set.proofs.Lists.{seen_at}
use Rattle.marker_set.proofs.BlockLemmas.{cells_from}
use Rattle.marker_set.proofs.HomeLemmas.{no_owner, owned, same_part, same_cell, same_number}
use Rattle.marker_set.proofs.LooseLemmas.{nowhere_not_packed, alone_not_packed}
use Rattle.marker_set.proofs.Counting.{one_other, times_permutation, times-append, total_none, total_at, times-flat_map, hit, times-filter_map, numbers_from, times_numbers, numbers_rise}

-- ONE CELL
abbrev between : (from to place : ℕ) → Bool
between from to place = nat_le from place && nat_le place to

abbrev number_if : Bool → ℕ → Option ℕ
number_if t n = if t then Some n else None

le_same : (a b c d : ℕ) → (a ≤ b → c ≤ d) → (c ≤ d → a ≤ b) → nat_le a b ≡ nat_le c d
le_same a b c d f g = elim (cases_lt b a) [
  | inl h ↦ lt-leb a b h ∙ sym (lt-leb c d (elim (cases_lt d c) [ inl k ↦ k | inr k ↦ (let e = g k in absurd (omega arith)) ]))
  | inr h ↦ le-leb a b h ∙ sym (le-leb c d (f h))
]

shifted : (offset from to high place : ℕ) → offset + high ≡ to → between (from - offset) high place ≡ between from to (offset + place)
shifted offset from to high place e =
    ap (λ t. t && nat_le place high) (le_same (from - offset) place from (offset + place) (λ h. omega arith) (λ h. omega arith))
    ∙ ap (λ t. nat_le from (offset + place) && t) (le_same place high (offset + place) to (λ h. omega arith) (λ h. omega arith))

cell_shifted : (offset from to high : ℕ) → offset + high ≡ to → (o : Option Cell) → number_between (from - offset) high o ≡ number_between from to (option_map (placed offset) o)
cell_shifted offset from to high e None = refl
cell_shifted offset from to high e (Some c) = ap (λ t. number_if t c.number) (shifted offset from to high c.place e)

pub cells_shifted : (offset from to high : ℕ) → offset + high ≡ to → (cells : List (Option Cell)) → filter_map (number_between (from - offset) high) cells ≡ filter_map (number_between from to) (cells_from offset cells)
cells_shifted offset from to high e [] = refl
cells_shifted offset from to high e (o ∷ cells) =
    ap (λ n. cons_option n (filter_map (number_between (from - offset) high) cells)) (cell_shifted offset from to high e o)
    ∙ ap (cons_option (number_between from to (option_map (placed offset) o))) (cells_shifted offset from to high e cells)

-- NONE
pub none_of : {A : Type 0} (g : A → Option ℕ) (xs : List A) → All (λ x. g x ≡ None) xs → filter_map g xs ≡ []
none_of g [] h = refl
none_of g (x ∷ xs) h = ap (λ o. cons_option o (filter_map g xs)) (All-head (λ y. g y ≡ None) x xs h) ∙ none_of g xs (All-tail (λ y. g y ≡ None) x xs h)

outside : (from to place : ℕ) → ((place < from) ⊎ (to < place)) → between from to place ≡ false
outside from to place h = elim h [
  | inl low ↦ and_left (nat_le from place) (nat_le place to) (lt-leb from place low)
  | inr high ↦ and_right (nat_le from place) (nat_le place to) (lt-leb place to high)
]

cell_outside : (offset from to least most : ℕ) → ((most < from) ⊎ (to < least)) → (o : Option Cell) → Lies offset least most o → number_between from to (option_map (placed offset) o) ≡ None
cell_outside offset from to least most h None l = refl
cell_outside offset from to least most h (Some c) l =
    ap (λ t. number_if t c.number) (outside from to (offset + c.place) (elim h [ inl low ↦ (let a = l.1 in inl (omega arith)) | inr high ↦ (let a = l.0 in inr (omega arith)) ]))

pub cells_outside : (offset from to least most : ℕ) → ((most < from) ⊎ (to < least)) → (cells : List (Option Cell)) → All (Lies offset least most) cells → filter_map (number_between from to) (cells_from offset cells) ≡ []
cells_outside offset from to least most h [] l = refl
cells_outside offset from to least most h (o ∷ cells) l =
    ap (λ n. cons_option n (filter_map (number_between from to) (cells_from offset cells))) (cell_outside offset from to least most h o (All-head (Lies offset least most) o cells l))
    ∙ cells_outside offset from to least most h cells (All-tail (Lies offset least most) o cells l)

cell_above : (offset from to : ℕ) → to < offset → (o : Option Cell) → number_between from to (option_map (placed offset) o) ≡ None
cell_above offset from to h None = refl
cell_above offset from to h (Some c) = ap (λ t. number_if t c.number) (outside from to (offset + c.place) (inr (omega arith)))

pub cells_above : (offset from to : ℕ) → to < offset → (cells : List (Option Cell)) → filter_map (number_between from to) (cells_from offset cells) ≡ []
cells_above offset from to h [] = refl
cells_above offset from to h (o ∷ cells) = ap (λ n. cons_option n (filter_map (number_between from to) (cells_from offset cells))) (cell_above offset from to h o) ∙ cells_above offset from to h cells

-- A PART
own_found_if : (from to : ℕ) (t : Bool) (cells : List (Option Cell)) → t ≡ true → (if t then filter_map (number_between from to) cells else []) ≡ filter_map (number_between from to) cells
own_found_if from to true cells e = refl
own_found_if from to false cells e = cc

pub own_found : (buffer from to : ℕ) (b : Block) → b.buffer ≡ buffer → found_in buffer from to b ≡ filter_map (number_between from to) b.cells
own_found buffer from to b e = own_found_if from to (b.buffer == buffer) b.cells (eq-eqb b.buffer buffer e)

other_found_if : (from to : ℕ) (t : Bool) (cells : List (Option Cell)) → t ≡ false → (if t then filter_map (number_between from to) cells else []) ≡ []
other_found_if from to false cells e = refl
other_found_if from to true cells e = cc

pub other_found : (buffer from to : ℕ) (b : Block) → (b.buffer ≡ buffer → ⊥) → found_in buffer from to b ≡ []
other_found buffer from to b n = other_found_if from to (b.buffer == buffer) b.cells (ne_eqb b.buffer buffer n)

none_found_if : (from to : ℕ) (t : Bool) (cells : List (Option Cell)) → filter_map (number_between from to) cells ≡ [] → (if t then filter_map (number_between from to) cells else []) ≡ []
none_found_if from to true cells e = e
none_found_if from to false cells e = refl

pub none_found : (buffer from to : ℕ) (b : Block) → filter_map (number_between from to) b.cells ≡ [] → found_in buffer from to b ≡ []
none_found buffer from to b e = none_found_if from to (b.buffer == buffer) b.cells e

-- no marker is kept alone
not_alone : (buffer from to : ℕ) (advances : Bool) (h : Home) → IsNotAlone (record { home = h; advances = advances }) → home_within buffer from to h ≡ false
not_alone buffer from to advances Nowhere n = refl
not_alone buffer from to advances (Alone own place) n = absurd n
not_alone buffer from to advances (Packed p c) n = refl

pub none_alone : (buffer from to s : ℕ) (slots : List Slot) → All IsNotAlone slots → numbers_from s (alone_within buffer from to) slots ≡ []
none_alone buffer from to s [] h = refl
none_alone buffer from to s (x ∷ slots) h =
    ap (λ t. cons_option (number_if t s) (numbers_from (s + 1) (alone_within buffer from to) slots)) (not_alone buffer from to x.advances x.home (All-head IsNotAlone x slots h))
    ∙ none_alone buffer from to (s + 1) slots (All-tail IsNotAlone x slots h)

-- one more slot
pub numbers_more : {A : Type 0} (test : A → Bool) (d : A) (xs : List A) (k : ℕ) → k < length xs →
    filter_map (numbered_if test) (take (k + 1) (enumerate_from 0 xs)) ≡ filter_map (numbered_if test) (take k (enumerate_from 0 xs)) ++ filter_map (numbered_if test) ((k, get_or xs k d) ∷ [])
numbers_more test d xs k h =
    let all = enumerate_from 0 xs in
    let within : k < length all = (let e = length-enumerate_from 0 xs in omega arith) in
    let at : get_or all k (0, d) ≡ (k, get_or xs k d) = get_or-enumerate_from 0 xs k (0, d) h ∙ ap (λ n. (n, get_or xs k d)) (zero-add k) in
    ap (filter_map (numbered_if test)) (take_more all k (0, d) within ∙ ap (λ x. take k all ++ x ∷ []) at)
    ∙ filter_map-append (numbered_if test) (take k all) ((k, get_or xs k d) ∷ [])

pub numbers_whole : {A : Type 0} (test : A → Bool) (xs : List A) (k : ℕ) → length xs ≤ k → filter_map (numbered_if test) (take k (enumerate_from 0 xs)) ≡ filter_map (numbered_if test) (enumerate_from 0 xs)
numbers_whole test xs k h = ap (filter_map (numbered_if test)) (take_all k (enumerate_from 0 xs) (let e = length-enumerate_from 0 xs in omega arith))

-- HOW OFTEN A NUMBER IS FOUND
module _ (buffer from to k : ℕ) where
  hit_other : (o : Option Cell) → (owner_of o ≡ Some k → ⊥) → hit k (number_between from to o) ≡ 0
  hit_other None n = refl
  hit_other (Some c) n = go (between from to c.place)
    where
      go : (t : Bool) → hit k (number_if t c.number) ≡ 0
      go true = one_other k c.number (λ e. n (ap Some e))
      go false = refl

  hit_own : (c : Cell) → c.number ≡ k → hit k (number_between from to (Some c)) ≡ count (between from to c.place)
  hit_own c e = go (between from to c.place)
    where
      go : (t : Bool) → hit k (number_if t c.number) ≡ count t
      go true = one_here k c.number e
      go false = refl

  abbrev found_if : Bool → Block → List ℕ
  found_if t b = if t then filter_map (number_between from to) b.cells else []

  abbrev found_times : Block → ℕ
  found_times b = times k (found_in buffer from to b)

  found_none : (b : Block) → ((i : ℕ) → owner_of (cell_at b i) ≡ Some k → ⊥) → found_times b ≡ 0
  found_none b n = go (b.buffer == buffer)
    where
      go : (t : Bool) → times k (found_if t b) ≡ 0
      go true = times-filter_map k (number_between from to) b.cells ∙ total_none (λ o. hit k (number_between from to o)) None b.cells (λ i. hit_other (cell_at b i) (n i))
      go false = refl

  found_one : (b : Block) (i : ℕ) (c : Cell) → cell_at b i ≡ Some c → c.number ≡ k → ((j : ℕ) → j ≢ i → owner_of (cell_at b j) ≡ Some k → ⊥) → found_times b ≡ count ((b.buffer == buffer) && between from to c.place)
  found_one b i c e own n = go (b.buffer == buffer)
    where
      go : (t : Bool) → times k (found_if t b) ≡ count (t && between from to c.place)
      go true =
          times-filter_map k (number_between from to) b.cells
          ∙ total_at (λ o. hit k (number_between from to o)) None refl b.cells i (λ j m. hit_other (cell_at b j) (n j m))
          ∙ ap (λ o. hit k (number_between from to o)) e ∙ hit_own c own
      go false = refl

  module _ (parts : List Block) (slots : List Slot) (alone : Bool) (kept : Kept parts slots alone) where
    none_of_parts : ((p i : ℕ) → owner_at parts p i ≡ Some k → ⊥) → total found_times parts ≡ 0
    none_of_parts n = total_none found_times no_block parts (λ p. found_none (block_at parts p) (n p))

    found_by_home : (h : Home) → (slot_at slots k).home ≡ h → total found_times parts + count (home_within buffer from to h) ≡ count (spot_within buffer from to (spot_at parts h))
    found_by_home Nowhere e =
        let none : total found_times parts ≡ 0 = none_of_parts (λ p i own. nowhere_not_packed p i (sym e ∙ kept.back k p i own)) in
        omega (arith, none)
    found_by_home (Alone own place) e =
        let none : total found_times parts ≡ 0 = none_of_parts (λ p i owner. alone_not_packed own place p i (sym e ∙ kept.back k p i owner)) in
        omega (arith, none)
    found_by_home (Packed p i) e =
        let own = owned k (cell_at (block_at parts p) i) (kept.there k p i e) in
        let c : Cell = own.0 in
        let number : c.number ≡ k = same_number c.number k (sym (ap owner_of own.1) ∙ kept.there k p i e) in
        let here : found_times (block_at parts p) ≡ count (((block_at parts p).buffer == buffer) && between from to c.place) =
        found_one (block_at parts p) i c own.1 number (λ j n owner. n (same_cell p i p j (sym e ∙ kept.back k p j owner))) in
        let none : found_times no_block ≡ 0 = found_none no_block (λ j owner. no_owner k (cell_at no_block j) (get_or_past {X = Option Cell} [] j None (omega arith)) owner) in
        let all : total found_times parts ≡ found_times (block_at parts p) =
        total_at found_times no_block none parts p (λ q n. found_none (block_at parts q) (λ j owner. n (same_part p i q j (sym e ∙ kept.back k q j owner)))) in
        let spot : spot_within buffer from to (spot_in (block_at parts p) (cell_at (block_at parts p) i)) ≡ (((block_at parts p).buffer == buffer) && between from to c.place) =
        ap (λ o. spot_within buffer from to (spot_in (block_at parts p) o)) own.1 in
        let sum : total found_times parts + 0 ≡ total found_times parts = omega arith in
        sum ∙ all ∙ here ∙ ap count (sym spot)

    found_of : times k (flat_map (found_in buffer from to) parts ++ numbers_from 0 (alone_within buffer from to) slots) ≡ times k (numbers_within buffer from to (map (marker_in parts) slots))
    found_of =
        let in_parts : times k (flat_map (found_in buffer from to) parts) ≡ total found_times parts = times-flat_map k (found_in buffer from to) parts in
        let in_slots : times k (numbers_from 0 (alone_within buffer from to) slots) ≡ count (home_within buffer from to (slot_at slots k).home) =
        subst (λ n. times n (numbers_from 0 (alone_within buffer from to) slots) ≡ count (home_within buffer from to (slot_at slots k).home)) (zero-add k) (times_numbers (alone_within buffer from to) no_slot refl slots 0 k) in
        let said : times k (numbers_within buffer from to (map (marker_in parts) slots)) ≡ count (stands_within buffer from to (get_or (map (marker_in parts) slots) k nowhere)) =
        subst (λ n. times n (numbers_within buffer from to (map (marker_in parts) slots)) ≡ count (stands_within buffer from to (get_or (map (marker_in parts) slots) k nowhere))) (zero-add k)
        (times_numbers (stands_within buffer from to) nowhere refl (map (marker_in parts) slots) 0 k) in
        let marker = ap (λ m. count (stands_within buffer from to m)) (seen_at (marker_in parts) slots k no_slot nowhere refl) in
        times-append k (flat_map (found_in buffer from to) parts) (numbers_from 0 (alone_within buffer from to) slots)
        ∙ ap (λ n. n + times k (numbers_from 0 (alone_within buffer from to) slots)) in_parts
        ∙ ap (λ n. total found_times parts + n) in_slots
        ∙ found_by_home (slot_at slots k).home refl
        ∙ sym (said ∙ marker)

-- WHAT IS FOUND, SORTED
pub found_sorted : (buffer from to : ℕ) (parts : List Block) (slots : List Slot) (alone : Bool) → Kept parts slots alone → (found sorted : List ℕ) →
    found ≡ flat_map (found_in buffer from to) parts ++ numbers_from 0 (alone_within buffer from to) slots → IsPermutation found sorted → IsNonDecreasing sorted → sorted ≡ numbers_within buffer from to (map (marker_in parts) slots)
found_sorted buffer from to parts slots alone kept found sorted e mixed rising =
    rising_same sorted (numbers_within buffer from to (map (marker_in parts) slots)) (rises_from sorted rising) (numbers_rise (stands_within buffer from to) (map (marker_in parts) slots) 0)
    (λ k. times_permutation k found sorted mixed ∙ ap (times k) e ∙ found_of buffer from to k parts slots alone kept)
