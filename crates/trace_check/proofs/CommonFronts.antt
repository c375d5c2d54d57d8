-- The longest common front of two lists, as one of them grows.
use Rattle.std.proofs.Common.{◌≡◌, ℕ, suc, ◌<◌, ◌≤◌, Bool, true, false, List, [], ◌∷◌, ◌++◌, length, get_or, refl, ap, sym, ◌∙◌, arith, inl, inr, ◌+◌, cond, filter, length-append}
use Rattle.std.specs.Prelude.{◌==◌, ◌⊎◌}
use Rattle.std.proofs.lemmas.Bool.{eqb-true, eq-eqb, ne_eqb}
use Rattle.std.proofs.lemmas.List.Elements.{filter-append}
use Rattle.plain_machine.specs.Grammar.{line_feeds}
use Rattle.trace_check.specs.Comparing.{common}

abbrev by_head : Bool → ℕ → List ℕ → List ℕ
by_head same x front = elim same [ true ↦ x ∷ front | false ↦ [] ]

pub common_nil : (xs : List ℕ) → common xs [] ≡ []
common_nil [] = refl
common_nil (x ∷ xs) = refl

pub common_self : (xs : List ℕ) → common xs xs ≡ xs
common_self [] = refl
common_self (x ∷ xs) = rw (eq-eqb x x refl, common) (ap (λ l. x ∷ l) (common_self xs))

-- it is no longer than either
pub no_longer : (xs ys : List ℕ) → (length (common xs ys) ≤ length xs) × (length (common xs ys) ≤ length ys)
no_longer [] ys = (omega arith, omega arith)
no_longer (x ∷ xs) [] = (omega arith, omega arith)
no_longer (x ∷ xs) (y ∷ ys) = go (x == y) (no_longer xs ys)
  where
    go : (same : Bool) → (length (common xs ys) ≤ length xs) × (length (common xs ys) ≤ length ys) → (length (by_head same x (common xs ys)) ≤ suc (length xs)) × (length (by_head same x (common xs ys)) ≤ suc (length ys))
    go true (a, b) = (omega (arith, a), omega (arith, b))
    go false (a, b) = (omega arith, omega arith)

-- behind a difference it stays
pub stays_behind : (xs ys zs : List ℕ) → length (common xs ys) < length ys → common xs (ys ++ zs) ≡ common xs ys
stays_behind [] ys zs h = refl
stays_behind (x ∷ xs) [] zs h = absurd (omega (arith, h))
stays_behind (x ∷ xs) (y ∷ ys) zs h = go (x == y) (stays_behind xs ys zs) h
  where
    go : (same : Bool) → (length (common xs ys) < length ys → common xs (ys ++ zs) ≡ common xs ys) → length (by_head same x (common xs ys)) < suc (length ys) → by_head same x (common xs (ys ++ zs)) ≡ by_head same x (common xs ys)
    go true ih h = ap (λ l. x ∷ l) (ih (omega (arith, h)))
    go false ih h = refl

-- it grows by a byte that comes next in both
pub grows : (xs ys : List ℕ) (b : ℕ) → length ys ≤ length (common xs ys) → length ys < length xs → get_or xs (length ys) 0 ≡ b → common xs (ys ++ b ∷ []) ≡ common xs ys ++ b ∷ []
grows [] ys b h k e = absurd (omega (arith, k))
grows (x ∷ xs) [] b h k e = rw (eq-eqb x b e, common) (ap (λ l. x ∷ l) (common_nil xs) ∙ ap (λ n. n ∷ []) e)
grows (x ∷ xs) (y ∷ ys) b h k e = go (x == y) (λ h. grows xs ys b h (omega (arith, k)) e) h
  where
    go : (same : Bool) → (length ys ≤ length (common xs ys) → common xs (ys ++ b ∷ []) ≡ common xs ys ++ b ∷ []) → suc (length ys) ≤ length (by_head same x (common xs ys)) →
        by_head same x (common xs (ys ++ b ∷ [])) ≡ by_head same x (common xs ys) ++ b ∷ []
    go true ih h = ap (λ l. x ∷ l) (ih (omega (arith, h)))
    go false ih h = absurd (omega (arith, h))

-- and not by another, nor where one has no more
pub stays_there : (xs ys : List ℕ) (b : ℕ) → length ys ≤ length (common xs ys) → (length ys < length xs → get_or xs (length ys) 0 ≡ b → ⊥) → common xs (ys ++ b ∷ []) ≡ common xs ys
stays_there [] ys b h k = refl
stays_there (x ∷ xs) [] b h k = rw (ne_eqb x b (λ e. k (omega arith) e), common) refl
stays_there (x ∷ xs) (y ∷ ys) b h k = go (x == y) (λ h. stays_there xs ys b h (λ m e. k (omega (arith, m)) e)) h
  where
    go : (same : Bool) → (length ys ≤ length (common xs ys) → common xs (ys ++ b ∷ []) ≡ common xs ys) → suc (length ys) ≤ length (by_head same x (common xs ys)) →
        by_head same x (common xs (ys ++ b ∷ [])) ≡ by_head same x (common xs ys)
    go true ih h = ap (λ l. x ∷ l) (ih (omega (arith, h)))
    go false ih h = absurd (omega (arith, h))

-- where it is all of both, they are the same
pub all_same : (xs ys : List ℕ) → length xs ≤ length (common xs ys) → length ys ≤ length (common xs ys) → xs ≡ ys
all_same [] [] h k = refl
all_same [] (y ∷ ys) h k = absurd (omega (arith, k))
all_same (x ∷ xs) [] h k = absurd (omega (arith, h))
all_same (x ∷ xs) (y ∷ ys) h k = go (x == y) refl (all_same xs ys) h k
  where
    go : (same : Bool) → (x == y) ≡ same → (length xs ≤ length (common xs ys) → length ys ≤ length (common xs ys) → xs ≡ ys) → suc (length xs) ≤ length (by_head same x (common xs ys)) →
        suc (length ys) ≤ length (by_head same x (common xs ys)) → x ∷ xs ≡ y ∷ ys
    go true e ih h k = let head : x ≡ y = eqb-true x y e in let tail : xs ≡ ys = ih (omega (arith, h)) (omega (arith, k)) in cc
    go false e ih h k = absurd (omega (arith, h))

-- where it isn't all of one, they differ
pub they_differ : (xs ys : List ℕ) (at : ℕ) → at ≡ length (common xs ys) → (at < length ys) ⊎ (at < length xs) → xs ≡ ys → ⊥
they_differ xs ys at is h e = go h
  where
    whole : length (common xs ys) ≡ length xs
    whole = ap (λ l. length (common xs l)) (sym e) ∙ ap length (common_self xs)

    go : (at < length ys) ⊎ (at < length xs) → ⊥
    go (inl k) = omega (arith, is, whole, ap length e, k)
    go (inr k) = omega (arith, is, whole, k)

-- LINE FEEDS
pub one_feed : (xs : List ℕ) → line_feeds (xs ++ 10 ∷ []) ≡ line_feeds xs + 1
one_feed xs = ap length (filter-append (λ c. c == 10) xs (10 ∷ [])) ∙ length-append (filter (λ c. c == 10) xs) (10 ∷ [])

pub no_feed : (xs : List ℕ) (b : ℕ) → (b ≡ 10 → ⊥) → line_feeds (xs ++ b ∷ []) ≡ line_feeds xs
no_feed xs b other = ap length (filter-append (λ c. c == 10) xs (b ∷ [])) ∙ length-append (filter (λ c. c == 10) xs) (filter (λ c. c == 10) (b ∷ [])) ∙ rw (ne_eqb b 10 other, filter) (omega arith)

-- all of what was met agrees
pub all_met : (xs ys : List ℕ) (at : ℕ) → at ≡ length (common xs ys) → length ys ≤ at → at ≡ length ys
all_met xs ys at is h = omega (arith, is, (no_longer xs ys).1)

filter_few : (test : ℕ → Bool) (xs : List ℕ) → length (filter test xs) ≤ length xs
filter_few test [] = omega arith
filter_few test (x ∷ xs) = go (test x) (filter_few test xs)
  where
    go : (kept : Bool) → length (filter test xs) ≤ length xs → length (cond kept (x ∷ filter test xs) (filter test xs)) ≤ suc (length xs)
    go true ih = omega (arith, ih)
    go false ih = omega (arith, ih)

pub feeds_few : (xs : List ℕ) → line_feeds xs ≤ length xs
feeds_few xs = filter_few (λ c. c == 10) xs
