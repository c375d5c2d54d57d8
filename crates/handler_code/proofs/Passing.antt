-- A test of each item of a list, as a loop makes it.
use Rattle.std.proofs.Common.{◌≡◌, ◌≤◌, ◌<◌, ℕ, zero, suc, ◌+◌, ◌-◌, arith, Bool, true, false, ◌&&◌, List, [], ◌∷◌, length, drop, map, refl, ap, ◌∙◌, slice_get, Some}
use Rattle.std.specs.Prelude.{option_map, Option, None}
use Rattle.std.specs.List.{list_all}
use Rattle.std.proofs.lemmas.List.{drop_all}
use Rattle.std.proofs.lemmas.Option.{slice_get-map, same_Some}
use Rattle.text_model.proofs.Lists.{drop_at}

pub seen_at : {A B : Type 0} (f : A → B) (xs : List A) (i : ℕ) (x : A) → slice_get xs i ≡ Some x → slice_get (map f xs) i ≡ Some (f x)
seen_at f xs i x at = slice_get-map f xs i ∙ ap (option_map f) at

all_from : {A : Type 0} (p : A → Bool) (xs : List A) (i : ℕ) (x : A) → slice_get xs i ≡ Some x → list_all p xs ≡ list_all p (drop i xs) → list_all p xs ≡ (p x && list_all p (drop (i + 1) xs))
all_from p xs i x at so_far = so_far ∙ ap (list_all p) (drop_at xs i x at)

pub all_more : {A : Type 0} (p : A → Bool) (xs : List A) (i : ℕ) (x : A) → slice_get xs i ≡ Some x → list_all p xs ≡ list_all p (drop i xs) → p x ≡ true → list_all p xs ≡ list_all p (drop (i + 1) xs)
all_more p xs i x at so_far passes = all_from p xs i x at so_far ∙ ap (λ b. b && list_all p (drop (i + 1) xs)) passes

pub all_fails : {A : Type 0} (p : A → Bool) (xs : List A) (i : ℕ) (x : A) → slice_get xs i ≡ Some x → list_all p xs ≡ list_all p (drop i xs) → p x ≡ false → list_all p xs ≡ false
all_fails p xs i x at so_far fails = all_from p xs i x at so_far ∙ ap (λ b. b && list_all p (drop (i + 1) xs)) fails

pub all_passed : {A : Type 0} (p : A → Bool) (xs : List A) (i : ℕ) → length xs ≤ i → list_all p xs ≡ list_all p (drop i xs) → list_all p xs ≡ true
all_passed p xs i end so_far = so_far ∙ ap (list_all p) (drop_all i xs end)

pub all_same : {A : Type 0} (p q : A → Bool) (xs : List A) → ((x : A) → p x ≡ q x) → list_all p xs ≡ list_all q xs
all_same p q [] same = refl
all_same p q (x ∷ xs) same = ap (λ b. b && list_all p xs) (same x) ∙ ap (λ b. q x && b) (all_same p q xs same)

-- an item of pairs of which the second part is known
pub part_at : {A B : Type 0} (xs : List (A × B)) (i : ℕ) (b : B) → option_map (λ x. x.1) (slice_get xs i) ≡ Some b → (a : A) × (slice_get xs i ≡ Some (a, b))
part_at {A = A} {B = B} xs i b is = go (slice_get xs i) is
  where
    go : (o : Option (A × B)) → option_map (λ x. x.1) o ≡ Some b → (a : A) × (o ≡ Some (a, b))
    go None e = cc
    go (Some x) e = (x.0, ap (λ y. Some (x.0, y)) (same_Some x.1 b e))

-- a stretch of pairs whose second part is one that passes
pub all_alike : {A B : Type 0} (p : B → Bool) (xs : List (A × B)) (b : B) (i end : ℕ) → i ≤ end → ((j : ℕ) → i ≤ j → j < end → option_map (λ x. x.1) (slice_get xs j) ≡ Some b) → p b ≡ true →
    list_all (λ x. p x.1) xs ≡ list_all (λ x. p x.1) (drop i xs) → list_all (λ x. p x.1) xs ≡ list_all (λ x. p x.1) (drop end xs)
all_alike {A = A} {B = B} p xs b i end order same passes so_far = go (end - i) (omega (arith, order)) ∙ from (omega (arith, order))
  where
    from : {j k : ℕ} → j ≡ k → list_all (λ (x : A × B). p x.1) (drop j xs) ≡ list_all (λ (x : A × B). p x.1) (drop k xs)
    from e = ap (λ n. list_all (λ (x : A × B). p x.1) (drop n xs)) e

    go : (n : ℕ) → i + n ≤ end → list_all (λ (x : A × B). p x.1) xs ≡ list_all (λ (x : A × B). p x.1) (drop (i + n) xs)
    go zero h = so_far ∙ from (omega arith)
    go (suc n) h =
        let at = part_at xs (i + n) b (same (i + n) (omega arith) (omega (arith, h))) in
        all_more (λ (x : A × B). p x.1) xs (i + n) (at.0, b) at.1 (go n (omega (arith, h))) passes ∙ from (omega arith)
