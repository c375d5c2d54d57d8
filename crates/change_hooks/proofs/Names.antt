-- Lists of names, and the numbers that they stand for.
use Rattle.std.proofs.Common.{◌≡◌, ◌≤◌, ℕ, ◌+◌, Bool, true, false, not, ◌||◌, List, [], ◌∷◌, length, map, filter, refl, ap, ◌∙◌, cond, nat_lt, arith}
use Rattle.std.specs.Prelude.{Some, None}
use Rattle.std.specs.List.{list_any, prefix_len, position, position_or_len}
use Rattle.std.proofs.lemmas.List.{length-map}

pub any_mapped : {A : Type 0} (f : A → ℕ) (test : ℕ → Bool) (xs : List A) → list_any test (map f xs) ≡ list_any (λ x. test (f x)) xs
any_mapped f test [] = refl
any_mapped f test (x ∷ xs) = ap (λ later. test (f x) || later) (any_mapped f test xs)

pub filter_mapped : {A : Type 0} (f : A → ℕ) (test : ℕ → Bool) (xs : List A) → filter test (map f xs) ≡ map f (filter (λ x. test (f x)) xs)
filter_mapped f test [] = refl
filter_mapped f test (x ∷ xs) = go (test (f x)) (filter_mapped f test xs)
  where
    go : (passes : Bool) → filter test (map f xs) ≡ map f (filter (λ y. test (f y)) xs) → cond passes (f x ∷ filter test (map f xs)) (filter test (map f xs)) ≡ map f (cond passes (x ∷ filter (λ y. test (f y)) xs) (filter (λ y. test (f y)) xs))
    go true rest = ap (λ names. f x ∷ names) rest
    go false rest = rest

-- the first name that passes a test
prefix_mapped : {A B : Type 0} (f : A → B) (test : B → Bool) (xs : List A) → prefix_len test (map f xs) ≡ prefix_len (λ x. test (f x)) xs
prefix_mapped f test [] = refl
prefix_mapped f test (x ∷ xs) = ap (λ n. cond (test (f x)) (1 + n) 0) (prefix_mapped f test xs)

pub position_mapped : {A B : Type 0} (f : A → B) (test : B → Bool) (xs : List A) → position test (map f xs) ≡ position (λ x. test (f x)) xs
position_mapped f test xs =
    ap (λ n. cond (nat_lt n (length (map f xs))) (Some n) None) (prefix_mapped f (λ x. not (test x)) xs)
    ∙ ap (λ m. cond (nat_lt (position_or_len (λ x. test (f x)) xs) m) (Some (position_or_len (λ x. test (f x)) xs)) None) (length-map xs f)

pub length-filter-le : (test : ℕ → Bool) (xs : List ℕ) → length (filter test xs) ≤ length xs
length-filter-le test [] = omega arith
length-filter-le test (x ∷ xs) = go (test x) (length-filter-le test xs)
  where
    go : (passes : Bool) → length (filter test xs) ≤ length xs → length (cond passes (x ∷ filter test xs) (filter test xs)) ≤ length (x ∷ xs)
    go true rest = omega arith
    go false rest = omega arith
