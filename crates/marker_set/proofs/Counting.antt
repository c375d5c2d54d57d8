-- How often a number stands in a list.
use Rattle.std.proofs.Common.{◌≡◌, ◌≢◌, ℕ, zero, suc, ◌+◌, ◌<◌, ◌≤◌, Bool, true, false, if◌then◌else◌, List, [], ◌∷◌, ◌++◌, get_or, Option, Some, None, refl, ap, subst, sym, ◌∙◌, arith, IsPermutation}
use Rattle.std.specs.List.{filter_map, flat_map, enumerate_from, sum_by, cons_option}
use Rattle.std.proofs.lemmas.Bool.{ne_eqb}
use Rattle.std.proofs.lemmas.List.{get_or_past}
use Rattle.std.proofs.lemmas.List.Sums.{sum_by-cons}
use Rattle.std.proofs.lemmas.List.Sorted.{sum_by-IsPermutation}
use Rattle.text_model.proofs.Rising.{total, count, one, one_here, times, Below, Rises}
use Rattle.marker_set.specs.Numbered.{numbered_if}

pub one_other : (k x : ℕ) → (x ≡ k → ⊥) → one k x ≡ 0
one_other k x n = ap count (ne_eqb x k n)

times_is : (k : ℕ) (xs : List ℕ) → sum_by (one k) xs ≡ times k xs
times_is k [] = refl
times_is k (x ∷ xs) = sum_by-cons (one k) x xs ∙ ap (λ n. one k x + n) (times_is k xs)

pub times_permutation : (k : ℕ) (xs ys : List ℕ) → IsPermutation xs ys → times k ys ≡ times k xs
times_permutation k xs ys h = sym (times_is k ys) ∙ sum_by-IsPermutation (one k) xs ys h ∙ times_is k xs

pub times-append : (k : ℕ) (xs ys : List ℕ) → times k (xs ++ ys) ≡ times k xs + times k ys
times-append k [] ys = omega arith
times-append k (x ∷ xs) ys = let rest = times-append k xs ys in omega arith

-- SUMS
pub total_none : {A : Type 0} (f : A → ℕ) (d : A) (xs : List A) → ((j : ℕ) → f (get_or xs j d) ≡ 0) → total f xs ≡ 0
total_none f d [] h = refl
total_none f d (x ∷ xs) h =
    let first : f x ≡ 0 = h 0 in
    let rest : total f xs ≡ 0 = total_none f d xs (λ j. h (suc j)) in
    omega arith

-- all terms but one are 0
pub total_at : {A : Type 0} (f : A → ℕ) (d : A) → f d ≡ 0 → (xs : List A) (i : ℕ) → ((j : ℕ) → j ≢ i → f (get_or xs j d) ≡ 0) → total f xs ≡ f (get_or xs i d)
total_at f d z [] i h = sym (ap f (get_or_past [] i d (omega arith)) ∙ z)
total_at f d z (x ∷ xs) zero h =
    let rest : total f xs ≡ 0 = total_none f d xs (λ j. h (suc j) (λ e. omega arith)) in
    omega arith
total_at f d z (x ∷ xs) (suc i) h =
    let first : f x ≡ 0 = h 0 (λ e. omega arith) in
    let rest : total f xs ≡ f (get_or xs i d) = total_at f d z xs i (λ j n. h (suc j) (λ e. n (omega arith))) in
    omega arith

pub times-flat_map : {A : Type 0} (k : ℕ) (g : A → List ℕ) (xs : List A) → times k (flat_map g xs) ≡ total (λ x. times k (g x)) xs
times-flat_map k g [] = refl
times-flat_map k g (x ∷ xs) = times-append k (g x) (flat_map g xs) ∙ ap (λ n. times k (g x) + n) (times-flat_map k g xs)

abbrev pub hit : ℕ → Option ℕ → ℕ
hit k None = 0
hit k (Some n) = one k n

pub times-filter_map : {A : Type 0} (k : ℕ) (g : A → Option ℕ) (xs : List A) → times k (filter_map g xs) ≡ total (λ x. hit k (g x)) xs
times-filter_map k g [] = refl
times-filter_map k g (x ∷ xs) = go (times-filter_map k g xs) (g x)
  where
    go : times k (filter_map g xs) ≡ total (λ y. hit k (g y)) xs → (o : Option ℕ) → times k (cons_option o (filter_map g xs)) ≡ hit k o + total (λ y. hit k (g y)) xs
    go rest None = omega (arith, rest)
    go rest (Some n) = omega (arith, rest)

-- THE NUMBERS OF ITEMS THAT PASS A TEST
abbrev pub numbers_from : {A : Type 0} → ℕ → (A → Bool) → List A → List ℕ
numbers_from s test xs = filter_map (numbered_if test) (enumerate_from s xs)

times_before : {A : Type 0} (test : A → Bool) (xs : List A) (s k : ℕ) → k < s → times k (numbers_from s test xs) ≡ 0
times_before test [] s k h = refl
times_before test (x ∷ xs) s k h = go (times_before test xs (s + 1) k (omega arith)) (test x)
  where
    go : times k (numbers_from (s + 1) test xs) ≡ 0 → (t : Bool) → times k (cons_option (if t then Some s else None) (numbers_from (s + 1) test xs)) ≡ 0
    go rest true = let first : one k s ≡ 0 = one_other k s (λ e. omega arith) in omega (arith, rest)
    go rest false = rest

pub times_numbers : {A : Type 0} (test : A → Bool) (d : A) → test d ≡ false → (xs : List A) (s i : ℕ) → times (s + i) (numbers_from s test xs) ≡ count (test (get_or xs i d))
times_numbers test d z [] s i = sym (ap (λ x. count (test x)) (get_or_past [] i d (omega arith)) ∙ ap count z)
times_numbers test d z (x ∷ xs) s zero = go (times_before test xs (s + 1) (s + 0) (omega arith)) (test x)
  where
    go : times (s + 0) (numbers_from (s + 1) test xs) ≡ 0 → (t : Bool) → times (s + 0) (cons_option (if t then Some s else None) (numbers_from (s + 1) test xs)) ≡ count t
    go rest true = let first : one (s + 0) s ≡ 1 = one_here (s + 0) s (omega arith) in omega (arith, rest)
    go rest false = rest
times_numbers test d z (x ∷ xs) s (suc i) =
    let e : (s + 1) + i ≡ s + suc i = omega arith in
    go (subst (λ k. times k (numbers_from (s + 1) test xs) ≡ count (test (get_or xs i d))) e (times_numbers test d z xs (s + 1) i)) (test x)
  where
    go : times (s + suc i) (numbers_from (s + 1) test xs) ≡ count (test (get_or xs i d)) → (t : Bool) →
        times (s + suc i) (cons_option (if t then Some s else None) (numbers_from (s + 1) test xs)) ≡ count (test (get_or xs i d))
    go rest true = let first : one (s + suc i) s ≡ 0 = one_other (s + suc i) s (λ e. omega arith) in omega (arith, rest)
    go rest false = rest

-- RISING NUMBERS
numbers_above : {A : Type 0} (test : A → Bool) (xs : List A) (s n : ℕ) → n ≤ s → Below n (numbers_from s test xs)
numbers_above test [] s n h = tt
numbers_above test (x ∷ xs) s n h = go (numbers_above test xs (s + 1) n (omega arith)) (test x)
  where
    go : Below n (numbers_from (s + 1) test xs) → (t : Bool) → Below n (cons_option (if t then Some s else None) (numbers_from (s + 1) test xs))
    go rest true = (h, rest)
    go rest false = rest

pub numbers_rise : {A : Type 0} (test : A → Bool) (xs : List A) (s : ℕ) → Rises (numbers_from s test xs)
numbers_rise test [] s = tt
numbers_rise test (x ∷ xs) s = go (numbers_above test xs (s + 1) s (omega arith)) (numbers_rise test xs (s + 1)) (test x)
  where
    go : Below s (numbers_from (s + 1) test xs) → Rises (numbers_from (s + 1) test xs) → (t : Bool) → Rises (cons_option (if t then Some s else None) (numbers_from (s + 1) test xs))
    go low rest true = (low, rest)
    go low rest false = rest
