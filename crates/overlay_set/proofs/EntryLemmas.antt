-- The entries of overlays by number.
use Rattle.std.proofs.Common.{◌≡◌, ℕ, zero, suc, ◌+◌, ◌<◌, ◌≤◌, Bool, true, false, ◌==◌, List, [], ◌∷◌, ◌++◌, map, length, filter, slice_set, All, Option, Some, None, IfSome, append_assoc, refl, ap, sym, ◌∙◌, subst, arith, if◌then◌else◌, add-one}
use Rattle.std.specs.List.{flat_map, enumerate_from}
use Rattle.std.proofs.lemmas.Bool.{eq-eqb, ne_eqb}
use Rattle.std.proofs.lemmas.List.Elements.{All-nil, All-cons, All-head, All-tail}
use Rattle.text_model.specs.Marks.{Overlay, Span}
use Rattle.text_model.specs.OverlayQuestions.{span_passes, ends_of_span, overlay_ends}
use Rattle.text_model.proofs.Rising.{total, Below, Rises}
use Rattle.overlay_set.specs.Numbered.{overlay_at, span_at, numbers_of}
use Rattle.overlay_set.specs.Slots.{test_of, with_span, moved_by, CanMoveIn}
use Rattle.overlay_set.specs.Entries.{entry_of, entries_from, numbers_in, passes, ends_at, is_same, without}
use Rattle.overlay_set.specs.Moves.{CanMoveEntry, moved_entry}
use Rattle.overlay_set.specs.declared.slot.Question.{Question}
use Rattle.overlay_set.specs.declared.slot.Change.{Change}
use Rattle.overlay_set.specs.declared.slot.Change.TheVariants.{Insertion, Deletion, Killed}
use Rattle.overlay_set.specs.declared.bounds.Entry.{Entry}
use Rattle.overlay_set.proofs.Parts.{is_same-true}
use Rattle.overlay_set.proofs.SameLemmas.{Same, total-append}

-- what is read by number from k on
abbrev pub Agrees : (all : List Overlay) → (k : ℕ) → (os : List Overlay) → Type 0
Agrees all k [] = Unit {0}
Agrees all k (o ∷ os) = (overlay_at all k ≡ o) × ((k < length all) × Agrees all (k + 1) os)

agrees_more : (o : Overlay) (all : List Overlay) (k : ℕ) (os : List Overlay) → Agrees all k os → Agrees (o ∷ all) (k + 1) os
agrees_more o all k [] h = tt
agrees_more o all k (p ∷ os) h = let first : overlay_at (o ∷ all) (k + 1) ≡ p = ap (overlay_at (o ∷ all)) (add-one k) ∙ h.0 in let inside : k < length all = h.1.0 in (first, (omega arith, agrees_more o all (k + 1) os h.1.1))

pub agrees_all : (os : List Overlay) → Agrees os 0 os
agrees_all [] = tt
agrees_all (o ∷ os) = (refl, (omega arith, agrees_more o os 0 os (agrees_all os)))

-- APPENDED
pub entries_from-append : (k : ℕ) (os ps : List Overlay) → entries_from k (os ++ ps) ≡ entries_from k os ++ entries_from (k + length os) ps
entries_from-append k [] ps = let e : k + 0 ≡ k = omega arith in rw e refl
entries_from-append k (o ∷ os) ps =
    let e : k + 1 + length os ≡ k + suc (length os) = omega arith in
    ap (λ es. entry_of k o.span ++ es) (entries_from-append (k + 1) os ps ∙ ap (λ n. entries_from (k + 1) os ++ entries_from n ps) e)
    ∙ sym (append_assoc (entry_of k o.span) (entries_from (k + 1) os) (entries_from (k + suc (length os)) ps))

-- THE NUMBERS RISE
above_more : (n m : ℕ) (xs : List ℕ) → n ≤ m → Below m xs → Below n xs
above_more n m [] le h = tt
above_more n m (x ∷ xs) le h = let low = h.0 in (omega arith, above_more n m xs le h.1)

kept_above : (p : Entry → Bool) (k : ℕ) (os : List Overlay) → Below k (numbers_in (filter p (entries_from k os)))
kept_above p k [] = tt
kept_above p k (o ∷ os) = one (above_more k (k + 1) (numbers_in (filter p (entries_from (k + 1) os))) (omega arith) (kept_above p (k + 1) os)) o.span
  where
    one : (rest : Below k (numbers_in (filter p (entries_from (k + 1) os)))) → (s : Option Span) → Below k (numbers_in (filter p (entry_of k s ++ entries_from (k + 1) os)))
    one rest None = rest
    one rest (Some s) = by_test (p (record { number = k; stretch = (s.buffer, s.start, s.end) })) refl
      where
        by_test : (t : Bool) → p (record { number = k; stretch = (s.buffer, s.start, s.end) }) ≡ t → Below k (numbers_in (filter p (entry_of k (Some s) ++ entries_from (k + 1) os)))
        by_test true h = rw h (omega arith, rest)
        by_test false h = rw h rest

pub kept_rises : (p : Entry → Bool) (k : ℕ) (os : List Overlay) → Rises (numbers_in (filter p (entries_from k os)))
kept_rises p k [] = tt
kept_rises p k (o ∷ os) = one (kept_above p (k + 1) os) (kept_rises p (k + 1) os) o.span
  where
    one : (low : Below (k + 1) (numbers_in (filter p (entries_from (k + 1) os)))) → (rest : Rises (numbers_in (filter p (entries_from (k + 1) os)))) → (s : Option Span) → Rises (numbers_in (filter p (entry_of k s ++ entries_from (k + 1) os)))
    one low rest None = rest
    one low rest (Some s) = by_test (p (record { number = k; stretch = (s.buffer, s.start, s.end) })) refl
      where
        by_test : (t : Bool) → p (record { number = k; stretch = (s.buffer, s.start, s.end) }) ≡ t → Rises (numbers_in (filter p (entry_of k (Some s) ++ entries_from (k + 1) os)))
        by_test true h = rw h (above_more k (k + 1) (numbers_in (filter p (entries_from (k + 1) os))) (omega arith) low, rest)
        by_test false h = rw h rest

-- WHAT THE DEFINITIONS FIND
pub found_listed : (b : ℕ) (q : Question) (k : ℕ) (os : List Overlay) → numbers_of (filter (λ (o : ℕ × Overlay). span_passes b (test_of q) o.1.span) (enumerate_from k os)) ≡ numbers_in (filter (passes b q) (entries_from k os))
found_listed b q k [] = refl
found_listed b q k (o ∷ os) = one (found_listed b q (k + 1) os) o.span refl
  where
    one : (rest : numbers_of (filter (λ (o : ℕ × Overlay). span_passes b (test_of q) o.1.span) (enumerate_from (k + 1) os)) ≡ numbers_in (filter (passes b q) (entries_from (k + 1) os))) → (s : Option Span) → o.span ≡ s → numbers_of (filter (λ (o : ℕ × Overlay). span_passes b (test_of q) o.1.span) ((k, o) ∷ enumerate_from (k + 1) os)) ≡ numbers_in (filter (passes b q) (entry_of k o.span ++ entries_from (k + 1) os))
    one rest None h = rw h rest
    one rest (Some s) h = by_test (span_passes b (test_of q) (Some s)) refl
      where
        by_test : (t : Bool) → span_passes b (test_of q) (Some s) ≡ t → numbers_of (filter (λ (o : ℕ × Overlay). span_passes b (test_of q) o.1.span) ((k, o) ∷ enumerate_from (k + 1) os)) ≡ numbers_in (filter (passes b q) (entry_of k o.span ++ entries_from (k + 1) os))
        by_test true t = rw (h, t) (ap (λ ns. k ∷ ns) rest)
        by_test false t = rw (h, t) rest

pub ends_listed : (b k : ℕ) (os : List Overlay) → overlay_ends b os ≡ flat_map (ends_at b) (entries_from k os)
ends_listed b k [] = refl
ends_listed b k (o ∷ os) = one (ends_listed b (k + 1) os) o.span
  where
    one : (rest : overlay_ends b os ≡ flat_map (ends_at b) (entries_from (k + 1) os)) → (s : Option Span) → ends_of_span b s ++ overlay_ends b os ≡ flat_map (ends_at b) (entry_of k s ++ entries_from (k + 1) os)
    one rest None = rest
    one rest (Some s) = ap (λ es. ends_of_span b (Some s) ++ es) rest

-- MOVED
nowhere_moved : (b : ℕ) (change : Change) (o : Overlay) → o.span ≡ None → (moved_by b change o).span ≡ None
nowhere_moved b (Insertion at n all) o h = rw h refl
nowhere_moved b (Deletion from to) o h = rw h refl
nowhere_moved b Killed o h = rw h refl

pub stretch_back : (o : Overlay) (s : Span) → o.span ≡ Some s → with_span o (s.buffer, s.start, s.end) ≡ o
stretch_back o s h = ap (λ p. record o { span = p }) (sym h)

pub entries_moved : (b : ℕ) (change : Change) (all : List Overlay) (k : ℕ) (os : List Overlay) → Agrees all k os → flat_map (moved_entry b change all) (entries_from k os) ≡ entries_from k (map (moved_by b change) os)
entries_moved b change all k [] h = refl
entries_moved b change all k (o ∷ os) h = one (entries_moved b change all (k + 1) os h.1.1) o.span refl
  where
    one : (rest : flat_map (moved_entry b change all) (entries_from (k + 1) os) ≡ entries_from (k + 1) (map (moved_by b change) os)) → (s : Option Span) → o.span ≡ s → flat_map (moved_entry b change all) (entry_of k o.span ++ entries_from (k + 1) os) ≡ entry_of k (moved_by b change o).span ++ entries_from (k + 1) (map (moved_by b change) os)
    one rest None e =
        ap (λ p. flat_map (moved_entry b change all) (entry_of k p ++ entries_from (k + 1) os)) e ∙ rest
        ∙ ap (λ p. entry_of k p ++ entries_from (k + 1) (map (moved_by b change) os)) (sym (nowhere_moved b change o e))
    one rest (Some s) e =
        let there : moved_by b change (with_span (overlay_at all k) (s.buffer, s.start, s.end)) ≡ moved_by b change o =
        ap (λ p. moved_by b change (with_span p (s.buffer, s.start, s.end))) h.0 ∙ ap (moved_by b change) (stretch_back o s e) in
        ap (λ p. flat_map (moved_entry b change all) (entry_of k p ++ entries_from (k + 1) os)) e
        ∙ ap (λ (p : Overlay). entry_of k p.span ++ flat_map (moved_entry b change all) (entries_from (k + 1) os)) there
        ∙ ap (λ es. entry_of k (moved_by b change o).span ++ es) rest

-- WHAT HOLDS OF EACH
abbrev pub Matches : List Overlay → Entry → Type 0
Matches os e = (e.number < length os) × (with_span (overlay_at os e.number) e.stretch ≡ overlay_at os e.number)

pub entries_match : (all : List Overlay) (k : ℕ) (os : List Overlay) → Agrees all k os → All (Matches all) (entries_from k os)
entries_match all k [] h = All-nil (Matches all)
entries_match all k (o ∷ os) h = one (entries_match all (k + 1) os h.1.1) o.span refl
  where
    one : (rest : All (Matches all) (entries_from (k + 1) os)) → (s : Option Span) → o.span ≡ s → All (Matches all) (entry_of k o.span ++ entries_from (k + 1) os)
    one rest None e = rw e rest
    one rest (Some s) e =
        let back : with_span (overlay_at all k) (s.buffer, s.start, s.end) ≡ overlay_at all k = ap (λ p. with_span p (s.buffer, s.start, s.end)) h.0 ∙ stretch_back o s e ∙ sym h.0 in
        rw e (All-cons (Matches all) (record { number = k; stretch = (s.buffer, s.start, s.end) }) (entries_from (k + 1) os) (h.1.0, back) rest)

at_some : (P : Span → Type 0) (t : Option Span) (s : Span) → t ≡ Some s → IfSome t P → P s
at_some P t s e h = subst (λ u. IfSome u P) e h

pub entries_can_move : (b : ℕ) (change : Change) (k : ℕ) (os : List Overlay) → All (CanMoveIn b change) os → All (CanMoveEntry b change) (entries_from k os)
entries_can_move b change k [] h = All-nil (CanMoveEntry b change)
entries_can_move b change k (o ∷ os) h = one (entries_can_move b change (k + 1) os (All-tail (CanMoveIn b change) o os h)) o.span refl
  where
    one : (rest : All (CanMoveEntry b change) (entries_from (k + 1) os)) → (s : Option Span) → o.span ≡ s → All (CanMoveEntry b change) (entry_of k o.span ++ entries_from (k + 1) os)
    one rest None e = rw e rest
    one rest (Some s) e = rw e (All-cons (CanMoveEntry b change) (record { number = k; stretch = (s.buffer, s.start, s.end) }) (entries_from (k + 1) os) (at_some _ o.span s e (All-head (CanMoveIn b change) o os h)) rest)

-- WHAT HOLDS OF EACH OF THE SAME ENTRIES
abbrev is_entry : Entry → Entry → ℕ
is_entry x y = if is_same y x then 1 else 0

is_same-refl : (e : Entry) → is_same e e ≡ true
is_same-refl e = rw (eq-eqb e.number e.number refl, eq-eqb e.stretch.0 e.stretch.0 refl, eq-eqb e.stretch.1 e.stretch.1 refl, eq-eqb e.stretch.2 e.stretch.2 refl) refl

counted_holds : (P : Entry → Type 0) (x : Entry) (ys : List Entry) → All P ys → 0 < total (is_entry x) ys → P x
counted_holds P x [] all h = absurd (omega arith)
counted_holds P x (y ∷ ys) all h = by_test (counted_holds P x ys (All-tail P y ys all)) (is_same y x) refl
  where
    by_test : (0 < total (is_entry x) ys → P x) → (t : Bool) → is_same y x ≡ t → P x
    by_test ih true e = subst P (is_same-true y x e) (All-head P y ys all)
    by_test ih false e = let p : total (is_entry x) (y ∷ ys) ≡ 0 + total (is_entry x) ys = rw e refl in ih (omega arith)

all_counted : (P : Entry → Type 0) (xs : List Entry) → ((x : Entry) → 0 < total (is_entry x) xs → P x) → All P xs
all_counted P [] h = All-nil P
all_counted P (x ∷ xs) h =
    let own : is_entry x x ≡ 1 = rw (is_same-refl x) refl in
    All-cons P x xs (h x (omega arith)) (all_counted P xs (λ y k. h y (omega arith)))

pub all_same : (P : Entry → Type 0) (xs ys : List Entry) → Same xs ys → All P ys → All P xs
all_same P xs ys s all = all_counted P xs (λ x h. counted_holds P x ys all (let e = s (is_entry x) in omega arith))

-- A STRETCH GIVEN OR TAKEN
pub without_above : (e : Entry) (k : ℕ) (os : List Overlay) → e.number < k → without e (entries_from k os) ≡ entries_from k os
without_above e k [] h = refl
without_above e k (o ∷ os) h = one (without_above e (k + 1) os (omega arith)) o.span
  where
    one : (rest : without e (entries_from (k + 1) os) ≡ entries_from (k + 1) os) → (s : Option Span) → without e (entry_of k s ++ entries_from (k + 1) os) ≡ entry_of k s ++ entries_from (k + 1) os
    one rest None = rest
    one rest (Some s) = let apart : (k == e.number) ≡ false = ne_eqb k e.number (λ p. omega arith) in rw apart (ap (λ es. record { number = k; stretch = (s.buffer, s.start, s.end) } ∷ es) rest)

pub without_set : (k i : ℕ) (os : List Overlay) (s : ℕ × ℕ × ℕ) (o : Overlay) → i < length os → (overlay_at os i).span ≡ Some (span_at s) → o.span ≡ None →
    without (record { number = k + i; stretch = s }) (entries_from k os) ≡ entries_from k (slice_set os i o)
without_set k i [] s o h e n = absurd (omega arith)
without_set k zero (p ∷ os) s o h e n =
    let here : k + 0 ≡ k = omega arith in
    let apart : without (record { number = k; stretch = s }) (entries_from (k + 1) os) ≡ entries_from (k + 1) os = without_above (record { number = k; stretch = s }) (k + 1) os (omega arith) in
    let own : is_same (record { number = k; stretch = s }) (record { number = k; stretch = s }) ≡ true = is_same-refl (record { number = k; stretch = s }) in
    ap (λ m. without (record { number = m; stretch = s }) (entries_from k (p ∷ os))) here
    ∙ ap (λ q. without (record { number = k; stretch = s }) (entry_of k q ++ entries_from (k + 1) os)) e
    ∙ rw own apart
    ∙ ap (λ q. entry_of k q ++ entries_from (k + 1) os) (sym n)
without_set k (suc i) (p ∷ os) s o h e n = one (without_set (k + 1) i os s o (omega arith) e n) p.span
  where
    one : (rest : without (record { number = k + 1 + i; stretch = s }) (entries_from (k + 1) os) ≡ entries_from (k + 1) (slice_set os i o)) → (q : Option Span) →
        without (record { number = k + suc i; stretch = s }) (entry_of k q ++ entries_from (k + 1) os) ≡ entry_of k q ++ entries_from (k + 1) (slice_set os i o)
    one rest None = let there : k + suc i ≡ k + 1 + i = omega arith in rw there rest
    one rest (Some q) =
        let there : k + suc i ≡ k + 1 + i = omega arith in
        let apart : (k == k + 1 + i) ≡ false = ne_eqb k (k + 1 + i) (λ p. omega arith) in
        ap (λ m. without (record { number = m; stretch = s }) (entry_of k (Some q) ++ entries_from (k + 1) os)) there
        ∙ rw apart (ap (λ es. record { number = k; stretch = (q.buffer, q.start, q.end) } ∷ es) rest)

-- one overlay with another stretch: its old entry and its new one
pub total_set : (f : Entry → ℕ) (k i : ℕ) (os : List Overlay) (o : Overlay) → i < length os →
    total f (entries_from k (slice_set os i o)) + total f (entry_of (k + i) (overlay_at os i).span) ≡ total f (entries_from k os) + total f (entry_of (k + i) o.span)
total_set f k i [] o h = absurd (omega arith)
total_set f k zero (p ∷ os) o h =
    let here : k + 0 ≡ k = omega arith in
    let old = total-append f (entry_of k p.span) (entries_from (k + 1) os) in
    let new = total-append f (entry_of k o.span) (entries_from (k + 1) os) in
    rw here (omega (arith, old, new))
total_set f k (suc i) (p ∷ os) o h =
    let there : k + suc i ≡ k + 1 + i = omega arith in
    let rest = total_set f (k + 1) i os o (omega arith) in
    let old = total-append f (entry_of k p.span) (entries_from (k + 1) os) in
    let new = total-append f (entry_of k p.span) (entries_from (k + 1) (slice_set os i o)) in
    rw there (omega (arith, rest, old, new))

-- the same stretch
pub entries_kept : (k i : ℕ) (os : List Overlay) (o : Overlay) → i < length os → o.span ≡ (overlay_at os i).span → entries_from k (slice_set os i o) ≡ entries_from k os
entries_kept k i [] o h e = absurd (omega arith)
entries_kept k zero (p ∷ os) o h e = ap (λ q. entry_of k q ++ entries_from (k + 1) os) e
entries_kept k (suc i) (p ∷ os) o h e = ap (λ es. entry_of k p.span ++ es) (entries_kept (k + 1) i os o (omega arith) e)
