-- What is done over the tree is what the definitions say of all overlays.
use Rattle.std.proofs.Common.{◌≡◌, ℕ, ◌+◌, ◌<◌, Bool, true, false, not, nat_lt, List, [], ◌∷◌, ◌++◌, map, length, filter, All, Option, Some, None, option_map, is_some, IfSome, min, max, IsPermutation, refl, ap, sym, ◌∙◌, subst, arith, if◌then◌else◌}
use Rattle.std.specs.List.{flat_map, fold, enumerate_from}
use Rattle.std.proofs.lemmas.Bool.{lt-ltb}
use Rattle.std.proofs.lemmas.List.Elements.{All-filter, All-head, All-tail, All-weaker}
use Rattle.text_model.specs.Properties.{get}
use Rattle.text_model.specs.Marks.{Overlay, Span}
use Rattle.text_model.specs.OverlayQuestions.{span_passes, covers, outranks, greater, greatest_of, overlays_where, winner, least, greatest, overlay_ends}
use Rattle.std.specs.List.Sorted.{IsNonDecreasing}
use Rattle.text_model.proofs.Rising.{total, rises_from}
use Rattle.overlay_set.specs.Numbered.{overlay_at, numbers_of}
use Rattle.overlay_set.specs.Slots.{moved_by, test_of, bare_of, bare, CanMoveIn}
use Rattle.overlay_set.specs.declared.slot.Slot.{Slot}
use Rattle.overlay_set.proofs.Lists.{alike}
use Rattle.overlay_set.specs.Entries.{entry_of, entries_from, HoldSame, numbers_in, passes, ends_at, IsMade}
use Rattle.overlay_set.specs.Moves.{CanMoveEntry, moved_entry}
use Rattle.overlay_set.specs.Winner as by_entry
use Rattle.overlay_set.proofs.ByNumber.{is_stronger, stronger, has_property, contenders, strongest}
use Rattle.overlay_set.specs.declared.slot.Question.TheVariants.{At}
use Rattle.overlay_set.specs.declared.slot.Question.{Question}
use Rattle.overlay_set.specs.declared.slot.Change.{Change}
use Rattle.overlay_set.specs.declared.bounds.Entry.{Entry}
use Rattle.overlay_set.proofs.SameLemmas.{Same, rising_alike, same_from_permutation, sums_from_same, same_from_sums, same-map, same-filter, same-flat_map, fold-same}
use Rattle.overlay_set.proofs.EntryLemmas.{Agrees, agrees_all, Matches, entries_match, all_same, ends_listed, entries_can_move, entries_moved, kept_rises, found_listed}
use Rattle.overlay_set.proofs.OrderLemmas.{stronger_swap}

-- THE WINNER
abbrev Fits : List Overlay → ℕ → Option (ℕ × Overlay) → Type 0
Fits all k None = Unit {0}
Fits all k (Some best) = (best.0 < k) × (overlay_at all best.0 ≡ best.1)

later_fits : (all : List Overlay) (k : ℕ) (best : Option (ℕ × Overlay)) → Fits all k best → Fits all (k + 1) best
later_fits all k None h = tt
later_fits all k (Some best) h = let low = h.0 in (omega arith, h.1)

greater_fits : (all : List Overlay) (k : ℕ) (o : Overlay) (best : Option (ℕ × Overlay)) → overlay_at all k ≡ o → Fits all k best → Fits all (k + 1) (Some (greater best (k, o)))
greater_fits all k o None here h = (omega arith, here)
greater_fits all k o (Some best) here h = by_rank (outranks o best.1) refl
  where
    by_rank : (t : Bool) → outranks o best.1 ≡ t → Fits all (k + 1) (Some (if t then (k, o) else best))
    by_rank true e = (omega arith, here)
    by_rank false e = let low = h.0 in (omega arith, h.1)

greater_number : (all : List Overlay) (k : ℕ) (o : Overlay) (best : Option (ℕ × Overlay)) → overlay_at all k ≡ o → Fits all k best → (greater best (k, o)).0 ≡ stronger all (option_map (λ b. b.0) best) k
greater_number all k o None here h = refl
greater_number all k o (Some best) here h =
    let low : nat_lt best.0 k ≡ true = lt-ltb best.0 k h.0 in
    let tests : is_stronger all k best.0 ≡ outranks o best.1 = rw (low, here, h.1) refl in
    by_rank (outranks o best.1) refl tests
  where
    by_rank : (t : Bool) → outranks o best.1 ≡ t → is_stronger all k best.0 ≡ outranks o best.1 → (if outranks o best.1 then (k, o) else best).0 ≡ (if is_stronger all k best.0 then k else best.0)
    by_rank true e s = rw (s, e) refl
    by_rank false e s = rw (s, e) refl

abbrev listed_from : (b i name : ℕ) → Option (ℕ × Overlay) → ℕ → List Overlay → Option (ℕ × Overlay)
listed_from b i name best k os = greatest_of best (filter (λ (o : ℕ × Overlay). is_some (get o.1.props name)) (filter (λ (o : ℕ × Overlay). span_passes b (covers (i + 1)) o.1.span) (enumerate_from k os)))

winner_listed : (b i name : ℕ) (all : List Overlay) (k : ℕ) (os : List Overlay) (best : Option (ℕ × Overlay)) → Agrees all k os → Fits all k best →
    strongest b i name all (option_map (λ o. o.0) best) (entries_from k os) ≡ option_map (λ o. o.0) (listed_from b i name best k os)
winner_listed b i name all k [] best h fit = refl
winner_listed b i name all k (o ∷ os) best h fit = by_span o.span refl (λ p f. winner_listed b i name all (k + 1) os p h.1.1 f)
  where
    by_span : (t : Option Span) → o.span ≡ t → ((p : Option (ℕ × Overlay)) → Fits all (k + 1) p → strongest b i name all (option_map (λ o. o.0) p) (entries_from (k + 1) os) ≡ option_map (λ o. o.0) (listed_from b i name p (k + 1) os)) →
        strongest b i name all (option_map (λ o. o.0) best) (entry_of k o.span ++ entries_from (k + 1) os) ≡ option_map (λ o. o.0) (listed_from b i name best k (o ∷ os))
    by_span None e ih =
        let none : span_passes b (covers (i + 1)) o.span ≡ false = ap (span_passes b (covers (i + 1))) e in
        ap (λ p. strongest b i name all (option_map (λ o. o.0) best) (entry_of k p ++ entries_from (k + 1) os)) e ∙ rw none (ih best (later_fits all k best fit))
    by_span (Some s) e ih =
        ap (λ p. strongest b i name all (option_map (λ o. o.0) best) (entry_of k p ++ entries_from (k + 1) os)) e ∙ by_cover (span_passes b (covers (i + 1)) (Some s)) refl
      where
        by_cover : (t : Bool) → span_passes b (covers (i + 1)) (Some s) ≡ t → strongest b i name all (option_map (λ o. o.0) best) (entry_of k (Some s) ++ entries_from (k + 1) os) ≡ option_map (λ o. o.0) (listed_from b i name best k (o ∷ os))
        by_cover false t =
            let seen : span_passes b (covers (i + 1)) o.span ≡ false = ap (span_passes b (covers (i + 1))) e ∙ t in
            rw (t, seen) (ih best (later_fits all k best fit))
        by_cover true t = by_property (is_some (get o.props name)) refl
          where
            seen : span_passes b (covers (i + 1)) o.span ≡ true
            seen = ap (span_passes b (covers (i + 1))) e ∙ t

            by_property : (u : Bool) → is_some (get o.props name) ≡ u → strongest b i name all (option_map (λ o. o.0) best) (entry_of k (Some s) ++ entries_from (k + 1) os) ≡ option_map (λ o. o.0) (listed_from b i name best k (o ∷ os))
            by_property false u =
                let has : has_property name all (record { number = k; stretch = (s.buffer, s.start, s.end) }) ≡ false = ap (λ (p : Overlay). is_some (get p.props name)) h.0 ∙ u in
                rw (t, seen, has, u) (ih best (later_fits all k best fit))
            by_property true u =
                let has : has_property name all (record { number = k; stretch = (s.buffer, s.start, s.end) }) ≡ true = ap (λ (p : Overlay). is_some (get p.props name)) h.0 ∙ u in
                rw (t, seen, has, u)
                (ap (λ m. strongest b i name all (Some m) (entries_from (k + 1) os)) (sym (greater_number all k o best h.0 fit)) ∙ ih (Some (greater best (k, o))) (greater_fits all k o best h.0 fit))

pub whole_winner : (b i name : ℕ) (os : List Overlay) (tree : List Entry) → HoldSame tree (entries_from 0 os) → strongest b i name os None tree ≡ option_map (λ o. o.0) (winner b (i + 1) name os)
whole_winner b i name os tree h =
    let es = entries_from 0 os in
    let same : Same tree es = same_from_sums tree es h in
    let front = filter (passes b (At i)) tree in
    let fronts = filter (passes b (At i)) es in
    fold-same (λ m k. Some (stronger os m k)) (stronger_swap os) (contenders b i name os tree) (contenders b i name os es)
    (same-map (λ (e : Entry). e.number) (filter (has_property name os) front) (filter (has_property name os) fronts) (same-filter (has_property name os) front fronts (same-filter (passes b (At i)) tree es same))) None
    ∙ winner_listed b i name os 0 os None (agrees_all os) tt

-- by entries with the slots, and by numbers with the overlays
has_alike : (name : ℕ) (slots : List Slot) (os : List Overlay) (e : Entry) → map bare_of slots ≡ map bare os → by_entry.has_property name (map bare_of slots) e ≡ has_property name os e
has_alike name slots os e h = ap (λ (o : Overlay). is_some (get o.props name)) (alike slots os e.number e.stretch h)

kept_alike : (name : ℕ) (slots : List Slot) (os : List Overlay) (es : List Entry) → map bare_of slots ≡ map bare os → filter (by_entry.has_property name (map bare_of slots)) es ≡ filter (has_property name os) es
kept_alike name slots os [] h = refl
kept_alike name slots os (e ∷ es) h = rw (has_alike name slots os e h, kept_alike name slots os es h) refl

stands : (slots : List Slot) (os : List Overlay) (e : Entry) → map bare_of slots ≡ map bare os → Matches os e → by_entry.standing (map bare_of slots) e ≡ overlay_at os e.number
stands slots os e h match = alike slots os e.number e.stretch h ∙ match.1

abbrev wins_first : Bool → Overlay → Overlay → Bool
wins_first below o p = if below then outranks o p else not (outranks p o)

stronger_alike : (slots : List Slot) (os : List Overlay) (e other : Entry) → map bare_of slots ≡ map bare os → Matches os e → Matches os other → by_entry.is_stronger (map bare_of slots) e other ≡ is_stronger os e.number other.number
stronger_alike slots os e other h match rival =
    ap (λ o. wins_first (nat_lt other.number e.number) o (by_entry.standing (map bare_of slots) other)) (stands slots os e h match)
    ∙ ap (λ p. wins_first (nat_lt other.number e.number) (overlay_at os e.number) p) (stands slots os other h rival)

abbrev number_of : Option Entry → Option ℕ
number_of best = option_map (λ (e : Entry). e.number) best

fold_alike : (slots : List Slot) (os : List Overlay) (best : Option Entry) (es : List Entry) → map bare_of slots ≡ map bare os → All (Matches os) es → IfSome best (Matches os) →
    number_of (fold (λ m e. Some (by_entry.stronger (map bare_of slots) m e)) best es) ≡ fold (λ m k. Some (stronger os m k)) (number_of best) (numbers_in es)
fold_alike slots os best [] h all match = refl
fold_alike slots os None (e ∷ es) h all match = fold_alike slots os (Some e) es h (All-tail (Matches os) e es all) (All-head (Matches os) e es all)
fold_alike slots os (Some best) (e ∷ es) h all match = by_test (λ m k. fold_alike slots os (Some m) es h (All-tail (Matches os) e es all) k) (is_stronger os e.number best.number) refl
  where
    own : Matches os e
    own = All-head (Matches os) e es all

    by_test : ((m : Entry) → Matches os m → number_of (fold (λ m e. Some (by_entry.stronger (map bare_of slots) m e)) (Some m) es) ≡ fold (λ m k. Some (stronger os m k)) (Some m.number) (numbers_in es)) → (t : Bool) → is_stronger os e.number best.number ≡ t →
        number_of (fold (λ m e. Some (by_entry.stronger (map bare_of slots) m e)) (Some (if by_entry.is_stronger (map bare_of slots) e best then e else best)) es) ≡ fold (λ m k. Some (stronger os m k)) (Some (if is_stronger os e.number best.number then e.number else best.number)) (numbers_in es)
    by_test ih true t =
        let s : by_entry.is_stronger (map bare_of slots) e best ≡ true = stronger_alike slots os e best h own match ∙ t in
        ap (λ b. number_of (fold (λ m e. Some (by_entry.stronger (map bare_of slots) m e)) (Some (if b then e else best)) es)) s
        ∙ ih e own
        ∙ ap (λ b. fold (λ m k. Some (stronger os m k)) (Some (if b then e.number else best.number)) (numbers_in es)) (sym t)
    by_test ih false t =
        let s : by_entry.is_stronger (map bare_of slots) e best ≡ false = stronger_alike slots os e best h own match ∙ t in
        ap (λ b. number_of (fold (λ m e. Some (by_entry.stronger (map bare_of slots) m e)) (Some (if b then e else best)) es)) s
        ∙ ih best match
        ∙ ap (λ b. fold (λ m k. Some (stronger os m k)) (Some (if b then e.number else best.number)) (numbers_in es)) (sym t)

pub winner_alike : (b i name : ℕ) (slots : List Slot) (os : List Overlay) (tree : List Entry) → map bare_of slots ≡ map bare os → HoldSame tree (entries_from 0 os) →
    option_map (λ (e : Entry). e.number) (by_entry.strongest b i name (map bare_of slots) None tree) ≡ option_map (λ o. o.0) (winner b (i + 1) name os)
winner_alike b i name slots os tree h holds =
    let front = filter (passes b (At i)) tree in
    let match : All (Matches os) tree = all_same (Matches os) tree (entries_from 0 os) (same_from_sums tree (entries_from 0 os) holds) (entries_match os 0 os (agrees_all os)) in
    ap (λ es. option_map (λ (e : Entry). e.number) (fold (λ m e. Some (by_entry.stronger (map bare_of slots) m e)) None es)) (kept_alike name slots os front h)
    ∙ fold_alike slots os None (filter (has_property name os) front) h (All-filter (has_property name os) (Matches os) front (All-filter (passes b (At i)) (Matches os) tree match)) tt
    ∙ whole_winner b i name os tree holds

-- STARTS AND ENDS
least_fold : (n : ℕ) (xs : List ℕ) → least n xs ≡ fold min n xs
least_fold n [] = refl
least_fold n (x ∷ xs) = least_fold (min n x) xs

greatest_fold : (n : ℕ) (xs : List ℕ) → greatest n xs ≡ fold max n xs
greatest_fold n [] = refl
greatest_fold n (x ∷ xs) = greatest_fold (max n x) xs

same_ends : (q : ℕ → Bool) (b : ℕ) (os : List Overlay) (tree : List Entry) → HoldSame tree (entries_from 0 os) → Same (filter q (flat_map (ends_at b) tree)) (filter q (overlay_ends b os))
same_ends q b os tree h =
    let es = entries_from 0 os in
    subst (λ ns. Same (filter q (flat_map (ends_at b) tree)) (filter q ns)) (sym (ends_listed b 0 os))
    (same-filter q (flat_map (ends_at b) tree) (flat_map (ends_at b) es) (same-flat_map (ends_at b) tree es (same_from_sums tree es h)))

pub whole_least : (q : ℕ → Bool) (b n : ℕ) (os : List Overlay) (tree : List Entry) → HoldSame tree (entries_from 0 os) → least n (filter q (overlay_ends b os)) ≡ least n (filter q (flat_map (ends_at b) tree))
whole_least q b n os tree h =
    let xs = filter q (flat_map (ends_at b) tree) in
    let ys = filter q (overlay_ends b os) in
    least_fold n ys ∙ sym (fold-same min (λ m x y. omega arith) xs ys (same_ends q b os tree h) n) ∙ sym (least_fold n xs)

pub whole_greatest : (q : ℕ → Bool) (b n : ℕ) (os : List Overlay) (tree : List Entry) → HoldSame tree (entries_from 0 os) → greatest n (filter q (overlay_ends b os)) ≡ greatest n (filter q (flat_map (ends_at b) tree))
whole_greatest q b n os tree h =
    let xs = filter q (flat_map (ends_at b) tree) in
    let ys = filter q (overlay_ends b os) in
    greatest_fold n ys ∙ sym (fold-same max (λ m x y. omega arith) xs ys (same_ends q b os tree h) n) ∙ sym (greatest_fold n xs)

-- EACH ENTRY WAS MADE
pub whole_made : (os : List Overlay) (tree : List Entry) → HoldSame tree (entries_from 0 os) → All (IsMade (length os)) tree
whole_made os tree h =
    let same : Same tree (entries_from 0 os) = same_from_sums tree (entries_from 0 os) h in
    All-weaker (Matches os) (IsMade (length os)) (λ e m. m.0) tree (all_same (Matches os) tree (entries_from 0 os) same (entries_match os 0 os (agrees_all os)))

pub whole_can_move : (b : ℕ) (change : Change) (os : List Overlay) (tree : List Entry) → HoldSame tree (entries_from 0 os) → All (CanMoveIn b change) os → All (CanMoveEntry b change) tree
whole_can_move b change os tree h can =
    let same : Same tree (entries_from 0 os) = same_from_sums tree (entries_from 0 os) h in
    all_same (CanMoveEntry b change) tree (entries_from 0 os) same (entries_can_move b change 0 os can)

-- the entries after a change are those of the overlays after it
pub whole_entries : (b : ℕ) (change : Change) (os : List Overlay) (tree : List Entry) → HoldSame tree (entries_from 0 os) → HoldSame (flat_map (moved_entry b change os) tree) (entries_from 0 (map (moved_by b change) os))
whole_entries b change os tree h =
    let es = entries_from 0 os in
    subst (HoldSame (flat_map (moved_entry b change os) tree)) (entries_moved b change os 0 os (agrees_all os))
    (sums_from_same (flat_map (moved_entry b change os) tree) (flat_map (moved_entry b change os) es) (same-flat_map (moved_entry b change os) tree es (same_from_sums tree es h)))

-- WHAT IS FOUND, SORTED
pub whole_found : (b : ℕ) (q : Question) (os : List Overlay) (tree : List Entry) (found sorted : List ℕ) → HoldSame tree (entries_from 0 os) → found ≡ numbers_in (filter (passes b q) tree) → IsPermutation found sorted → IsNonDecreasing sorted →
    sorted ≡ numbers_of (overlays_where b (test_of q) os)
whole_found b q os tree found sorted h all mixed rising =
    let es = entries_from 0 os in
    let same : Same (numbers_in (filter (passes b q) tree)) (numbers_in (filter (passes b q) es)) =
    same-map (λ (e : Entry). e.number) (filter (passes b q) tree) (filter (passes b q) es) (same-filter (passes b q) tree es (same_from_sums tree es h)) in
    let moved : Same sorted found = same_from_permutation found sorted mixed in
    rising_alike sorted (numbers_in (filter (passes b q) es)) (rises_from sorted rising) (kept_rises (passes b q) 0 os) (λ f. moved f ∙ ap (total f) all ∙ same f) ∙ sym (found_listed b q 0 os)
