-- Overlays that are asked one after the other: which stand in front of a position, and where the first of them begins or ends.
use Rattle.std.proofs.Common.{◌≡◌, ℕ, zero, suc, ◌+◌, ◌<◌, ◌≤◌, Bool, true, false, List, [], ◌∷◌, ◌++◌, length, drop, refl, sym, ap, ◌∙◌, arith, append_assoc, append-nil}
use Rattle.std.specs.Prelude.{◌&&◌, ◌||◌, ◌==◌, nat_lt, min, max, if◌then◌else◌, filter, Option, Some, None, is_some, slice_get, unwrap_or}
use Rattle.std.specs.List.{enumerate_from}
use Rattle.std.proofs.lemmas.Bool.{lt-ltb, le-ltb, ltb-false, lt-leb, eq-eqb, ne_eqb}
use Rattle.std.proofs.lemmas.List.{drop_all}
use Rattle.text_model.proofs.Lists.{drop_at}
use Rattle.text_model.specs.Marks.{Overlay, Span}
use Rattle.text_model.specs.OverlayQuestions.{span_passes, overlay_ends, least, greatest, next_end, previous_end, lies_within, overlaps, stands_in}
use Rattle.editor_model.specs.Editor.{Editor, overlay_of}
use Rattle.overlay_set.specs.Numbered.{numbers_of, previous_or}

eq_test : (a b : ℕ) → a ≡ b → (a == b) ≡ true
eq_test a b h = eq-eqb a b h

ne_test : (a b : ℕ) → (a ≡ b → ⊥) → (a == b) ≡ false
ne_test a b h = ne_eqb a b h

and_true : (b : Bool) → (b && true) ≡ b
and_true true = refl
and_true false = refl

-- ONE AFTER THE OTHER
pub passes_more : (id : ℕ) (test : Span → Bool) (os : List Overlay) (k : ℕ) (o : Overlay) (front new whole : List ℕ) → slice_get os k ≡ Some o → new ≡ front ++ (if span_passes id test o.span then k ∷ [] else [])
    → front ++ numbers_of (filter (λ p. span_passes id test p.1.span) (enumerate_from k (drop k os))) ≡ whole → new ++ numbers_of (filter (λ p. span_passes id test p.1.span) (enumerate_from (k + 1) (drop (k + 1) os))) ≡ whole
passes_more id test os k o front new whole at pushed inv =
    ap (λ f. f ++ rest) pushed ∙ append_assoc front (if span_passes id test o.span then k ∷ [] else []) rest ∙ ap (λ l. front ++ l) (go (span_passes id test o.span))
    ∙ ap (λ l. front ++ numbers_of (filter (λ p. span_passes id test p.1.span) (enumerate_from k l))) (sym (drop_at os k o at)) ∙ inv
  where
    rest : List ℕ
    rest = numbers_of (filter (λ (p : ℕ × Overlay). span_passes id test p.1.span) (enumerate_from (k + 1) (drop (k + 1) os)))

    go : (b : Bool) → (if b then k ∷ [] else []) ++ numbers_of (filter (λ (p : ℕ × Overlay). span_passes id test p.1.span) (enumerate_from (k + 1) (drop (k + 1) os)))
        ≡ numbers_of (if b then (k, o) ∷ filter (λ p. span_passes id test p.1.span) (enumerate_from (k + 1) (drop (k + 1) os)) else filter (λ p. span_passes id test p.1.span) (enumerate_from (k + 1) (drop (k + 1) os)))
    go true = refl
    go false = refl

pub passes_all : (id : ℕ) (test : Span → Bool) (os : List Overlay) (k : ℕ) (front whole : List ℕ) → length os ≤ k → front ++ numbers_of (filter (λ p. span_passes id test p.1.span) (enumerate_from k (drop k os))) ≡ whole → front ≡ whole
passes_all id test os k front whole l inv =
    sym (append-nil front) ∙ ap (λ l. front ++ numbers_of (filter (λ (p : ℕ × Overlay). span_passes id test p.1.span) (enumerate_from k l))) (sym (drop_all k os l)) ∙ inv

-- ENDS
least_one : (xs : List ℕ) → least 1 (filter (λ x. nat_lt 0 x) xs) ≡ 1
least_one [] = refl
least_one (zero ∷ xs) = least_one xs
least_one (suc x ∷ xs) =
    let nearer : min 1 (suc x) ≡ 1 = omega arith in
    rw (lt-ltb 0 (suc x) (omega arith)) (ap (λ n. least n (filter (λ x. nat_lt 0 x) xs)) nearer ∙ least_one xs)

greatest_most : (n : ℕ) (xs : List ℕ) → n ≤ greatest n xs
greatest_most n [] = omega arith
greatest_most n (x ∷ xs) = let more = greatest_most (max n x) xs in omega (arith, more)

-- where 1 is among some numbers, it is the first of those behind 0
first_is_one : (n : ℕ) (xs : List ℕ) → 1 ≤ n → 1 ≤ greatest 0 (filter (λ x. nat_lt x 2) xs) → least n (filter (λ x. nat_lt 0 x) xs) ≡ 1
first_is_one n [] low there = absurd (omega arith)
first_is_one n (zero ∷ xs) low there = first_is_one n xs low there
first_is_one n (suc zero ∷ xs) low there = ap (λ m. least m (filter (λ x. nat_lt 0 x) xs)) (let e : min n 1 ≡ 1 = omega arith in e) ∙ least_one xs
first_is_one n (suc (suc x) ∷ xs) low there =
    let rest : 1 ≤ greatest 0 (filter (λ x. nat_lt x 2) xs) = rw (le-ltb (suc (suc x)) 2 (omega arith)) at there in
    rw (lt-ltb 0 (suc (suc x)) (omega arith)) (first_is_one (min n (suc (suc x))) xs (omega arith) rest)

-- where it isn't, those behind 0 are those behind 1
none_is_one : (xs : List ℕ) → greatest 0 (filter (λ x. nat_lt x 2) xs) ≡ 0 → filter (λ x. nat_lt 0 x) xs ≡ filter (λ x. nat_lt 1 x) xs
none_is_one [] none = refl
none_is_one (zero ∷ xs) none = none_is_one xs none
none_is_one (suc zero ∷ xs) none = let more = greatest_most 1 (filter (λ x. nat_lt x 2) xs) in absurd (omega (arith, more, none))
none_is_one (suc (suc x) ∷ xs) none =
    let rest : greatest 0 (filter (λ x. nat_lt x 2) xs) ≡ 0 = rw (le-ltb (suc (suc x)) 2 (omega arith)) at none in
    rw (lt-ltb 0 (suc (suc x)) (omega arith), lt-ltb 1 (suc (suc x)) (omega arith)) (ap (λ ys. suc (suc x) ∷ ys) (none_is_one xs rest))

pub first_found : (id last : ℕ) (os : List Overlay) (found : Option ℕ) → ((first : ℕ) → previous_end id 2 first os ≡ previous_or first found) → is_some found ≡ true → 1 ≤ last → 1 ≡ next_end id 0 last os
first_found id last os None h some low = cc
first_found id last os (Some place) h some low = sym (first_is_one last (overlay_ends id os) low (let e = h 0 in omega (arith, e)))

pub first_behind : (id last : ℕ) (os : List Overlay) (found : Option ℕ) → ((first : ℕ) → previous_end id 2 first os ≡ previous_or first found) → is_some found ≡ false → next_end id 1 last os ≡ next_end id 0 last os
first_behind id last os None h none = sym (ap (least last) (none_is_one (overlay_ends id os) (h 0)))
first_behind id last os (Some place) h none = cc

none_before : (xs : List ℕ) → filter (λ x. nat_lt x 0) xs ≡ []
none_before [] = refl
none_before (x ∷ xs) = rw (le-ltb x 0 (omega arith)) (none_before xs)

pub nothing_before : (id first p : ℕ) (os : List Overlay) → p ≡ 0 → first ≡ previous_end id p first os
nothing_before id first p os h = sym (ap (greatest first) (ap (λ n. filter (λ x. nat_lt x n) (overlay_ends id os)) h ∙ none_before (overlay_ends id os)))

-- IN FRONT OF A POSITION
pub before_part : (id buffer from to last end : ℕ) → span_passes id (lies_within 0 last end) (Some (record { buffer = buffer; start = from; end = to })) ≡ ((buffer == id) && (if from == to then nat_lt (from + 1) last || ((from + 1 == last) && (last == end)) else nat_lt (from + 1) last))
before_part id buffer from to last end = ap (λ b. (buffer == id) && b) (go (from == to))
  where
    go : (b : Bool) → (if b then stands_in 0 last end (record { buffer = buffer; start = from; end = to }) else overlaps 0 last (record { buffer = buffer; start = from; end = to })) ≡ (if b then nat_lt (from + 1) last || ((from + 1 == last) && (last == end)) else nat_lt (from + 1) last)
    go true = rw (ne_test (from + 1) 0 (λ e. omega arith), lt-ltb 0 (from + 1) (omega arith)) refl
    go false = at (nat_lt 0 last) refl
      where
        at : (b : Bool) → nat_lt 0 last ≡ b → overlaps 0 last (record { buffer = buffer; start = from; end = to }) ≡ nat_lt (from + 1) last
        at true e = rw (e, lt-ltb 0 (to + 1) (omega arith)) (and_true (nat_lt (from + 1) last))
        at false e = rw (e, lt-leb (from + 1) 0 (omega arith)) (sym (le-ltb (from + 1) last (let k = ltb-false 0 last e in omega arith)))

-- an overlay that was made stands under its number
got : {A : Type 0} (xs : List A) (k : ℕ) (d : A) → k < length xs → slice_get xs k ≡ Some (unwrap_or (slice_get xs k) d)
got [] k d l = absurd (omega arith)
got (x ∷ xs) zero d l = refl
got (x ∷ xs) (suc k) d l = got xs k d (omega arith)

pub made_there : (e : Editor) (k : ℕ) → k < length e.marks.overlays → slice_get e.marks.overlays k ≡ Some (overlay_of e k)
made_there e k l = got e.marks.overlays k (record { span = None; front_advance = false; rear_advance = false; props = [] }) l
