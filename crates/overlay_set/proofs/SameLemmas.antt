-- Lists that hold the same items, in whatever order.
use Rattle.std.proofs.Common.{◌≡◌, ℕ, ◌+◌, ◌<◌, Bool, true, false, ◌==◌, List, [], ◌∷◌, ◌++◌, map, filter, refl, ap, sym, ◌∙◌, arith, if◌then◌else◌, IsPermutation}
use Rattle.std.specs.List.{flat_map, fold, sum_by}
use Rattle.std.proofs.lemmas.Bool.{eqb-true}
use Rattle.std.proofs.lemmas.List.Sums.{sum_by-cons}
use Rattle.std.proofs.lemmas.List.Sorted.{sum_by-IsPermutation}
use Rattle.text_model.proofs.Rising.{total, one, times, first_there, Rises, rising_same}

pub total_is : {X : Type 0} (f : X → ℕ) (xs : List X) → sum_by f xs ≡ total f xs
total_is f [] = refl
total_is f (x ∷ xs) = sum_by-cons f x xs ∙ ap (λ n. f x + n) (total_is f xs)

abbrev pub Same : {X : Type 0} → List X → List X → Type 0
Same {X} xs ys = (f : X → ℕ) → total f xs ≡ total f ys

pub same_from_sums : {X : Type 0} (xs ys : List X) → ((f : X → ℕ) → sum_by f xs ≡ sum_by f ys) → Same xs ys
same_from_sums xs ys h f = sym (total_is f xs) ∙ h f ∙ total_is f ys

pub sums_from_same : {X : Type 0} (xs ys : List X) → Same xs ys → (f : X → ℕ) → sum_by f xs ≡ sum_by f ys
sums_from_same xs ys h f = total_is f xs ∙ h f ∙ sym (total_is f ys)

pub same_from_permutation : {X : Type 0} (xs ys : List X) → IsPermutation xs ys → Same ys xs
same_from_permutation xs ys h f = sym (total_is f ys) ∙ sum_by-IsPermutation f xs ys h ∙ total_is f xs

pub total-append : {X : Type 0} (f : X → ℕ) (xs ys : List X) → total f (xs ++ ys) ≡ total f xs + total f ys
total-append f [] ys = omega arith
total-append f (x ∷ xs) ys = let rest = total-append f xs ys in omega arith

total-map : {X Y : Type 0} (f : Y → ℕ) (g : X → Y) (xs : List X) → total f (map g xs) ≡ total (λ x. f (g x)) xs
total-map f g [] = refl
total-map f g (x ∷ xs) = ap (λ n. f (g x) + n) (total-map f g xs)

total-flat_map : {X Y : Type 0} (f : Y → ℕ) (g : X → List Y) (xs : List X) → total f (flat_map g xs) ≡ total (λ x. total f (g x)) xs
total-flat_map f g [] = refl
total-flat_map f g (x ∷ xs) = total-append f (g x) (flat_map g xs) ∙ ap (λ n. total f (g x) + n) (total-flat_map f g xs)

abbrev pub counted_if : {X : Type 0} → (X → Bool) → (X → ℕ) → X → ℕ
counted_if p f x = if p x then f x else 0

pub total-filter : {X : Type 0} (f : X → ℕ) (p : X → Bool) (xs : List X) → total f (filter p xs) ≡ total (counted_if p f) xs
total-filter f p [] = refl
total-filter f p (x ∷ xs) = by_test (total-filter f p xs) (p x) refl
  where
    by_test : total f (filter p xs) ≡ total (counted_if p f) xs → (t : Bool) → p x ≡ t → total f (filter p (x ∷ xs)) ≡ total (counted_if p f) (x ∷ xs)
    by_test rest true h = rw h (ap (λ n. f x + n) rest)
    by_test rest false h = let none : total f (filter p xs) ≡ 0 + total (counted_if p f) xs = omega (arith, rest) in rw h none

pub same-map : {X Y : Type 0} (g : X → Y) (xs ys : List X) → Same xs ys → Same (map g xs) (map g ys)
same-map g xs ys h f = total-map f g xs ∙ h (λ x. f (g x)) ∙ sym (total-map f g ys)

pub same-flat_map : {X Y : Type 0} (g : X → List Y) (xs ys : List X) → Same xs ys → Same (flat_map g xs) (flat_map g ys)
same-flat_map g xs ys h f = total-flat_map f g xs ∙ h (λ x. total f (g x)) ∙ sym (total-flat_map f g ys)

pub same-filter : {X : Type 0} (p : X → Bool) (xs ys : List X) → Same xs ys → Same (filter p xs) (filter p ys)
same-filter p xs ys h f = total-filter f p xs ∙ h (counted_if p f) ∙ sym (total-filter f p ys)

-- ONE PUT IN
-- where one part of a list gets an item more, the whole list does
pub put_left : {X : Type 0} (new : X) (all xs : List X) (x : X) (ys more result : List X) → all ≡ xs ++ x ∷ ys → ((f : X → ℕ) → sum_by f more ≡ sum_by f (new ∷ xs)) → result ≡ more ++ x ∷ ys → (f : X → ℕ) → sum_by f result ≡ sum_by f (new ∷ all)
put_left new all xs x ys more result whole put is = rw (whole, is) (sums_from_same (more ++ x ∷ ys) (new ∷ (xs ++ x ∷ ys)) (λ f.
    (let part : total f more ≡ f new + total f xs = same_from_sums more (new ∷ xs) put f in
    let front = total-append f more (x ∷ ys) in
    let back = total-append f xs (x ∷ ys) in
    omega (arith, part, front, back))))

pub put_right : {X : Type 0} (new : X) (all xs : List X) (x : X) (ys more result : List X) → all ≡ xs ++ x ∷ ys → ((f : X → ℕ) → sum_by f more ≡ sum_by f (new ∷ ys)) → result ≡ xs ++ x ∷ more → (f : X → ℕ) → sum_by f result ≡ sum_by f (new ∷ all)
put_right new all xs x ys more result whole put is = rw (whole, is) (sums_from_same (xs ++ x ∷ more) (new ∷ (xs ++ x ∷ ys)) (λ f.
    (let part : total f more ≡ f new + total f ys = same_from_sums more (new ∷ ys) put f in
    let front = total-append f xs (x ∷ more) in
    let back = total-append f xs (x ∷ ys) in
    omega (arith, part, front, back))))

-- NUMBERS, ONE TAKEN OUT
abbrev pub less_one : ℕ → List ℕ → List ℕ
less_one x [] = []
less_one x (y ∷ ys) = if y == x then ys else y ∷ less_one x ys

total-less_one : (f : ℕ → ℕ) (x : ℕ) (ys : List ℕ) → 0 < times x ys → f x + total f (less_one x ys) ≡ total f ys
total-less_one f x [] h = absurd (omega arith)
total-less_one f x (y ∷ ys) h = by_test (total-less_one f x ys) (y == x) refl
  where
    by_test : (0 < times x ys → f x + total f (less_one x ys) ≡ total f ys) → (t : Bool) → (y == x) ≡ t → f x + total f (less_one x (y ∷ ys)) ≡ total f (y ∷ ys)
    by_test ih true k = let e : y ≡ x = eqb-true y x k in rw k (ap (λ z. f z + total f ys) (sym e))
    by_test ih false k =
        let p : times x (y ∷ ys) ≡ 0 + times x ys = rw k refl in
        let rest = ih (omega arith) in
        rw k (omega arith)

fold-less_one : {B : Type 0} (f : B → ℕ → B) → ((b : B) (x y : ℕ) → f (f b x) y ≡ f (f b y) x) → (x : ℕ) (ys : List ℕ) (b : B) → 0 < times x ys → fold f b ys ≡ fold f (f b x) (less_one x ys)
fold-less_one f swap x [] b h = absurd (omega arith)
fold-less_one f swap x (y ∷ ys) b h = by_test (fold-less_one f swap x ys (f b y)) (y == x) refl
  where
    by_test : (0 < times x ys → fold f (f b y) ys ≡ fold f (f (f b y) x) (less_one x ys)) → (t : Bool) → (y == x) ≡ t → fold f b (y ∷ ys) ≡ fold f (f b x) (less_one x (y ∷ ys))
    by_test ih true k = let e : y ≡ x = eqb-true y x k in rw k (ap (λ z. fold f (f b z) ys) e)
    by_test ih false k =
        let p : times x (y ∷ ys) ≡ 0 + times x ys = rw k refl in
        rw k (ih (omega arith) ∙ ap (λ c. fold f c (less_one x ys)) (swap b y x))

rest_same : (x : ℕ) (xs ys : List ℕ) → Same (x ∷ xs) ys → Same xs (less_one x ys)
rest_same x xs ys h f = let all = h f in let part = total-less_one f x ys (first_there x xs ys (h (one x))) in omega arith

-- a fold where the order doesn't count
pub fold-same : {B : Type 0} (f : B → ℕ → B) → ((b : B) (x y : ℕ) → f (f b x) y ≡ f (f b y) x) → (xs ys : List ℕ) → Same xs ys → (b : B) → fold f b xs ≡ fold f b ys
fold-same f swap [] [] h b = refl
fold-same f swap [] (y ∷ ys) h b = let all = h (λ x. 1) in absurd (omega arith)
fold-same f swap (x ∷ xs) ys h b = fold-same f swap xs (less_one x ys) (rest_same x xs ys h) (f b x) ∙ sym (fold-less_one f swap x ys b (first_there x xs ys (h (one x))))

-- RISING NUMBERS
pub rising_alike : (xs ys : List ℕ) → Rises xs → Rises ys → Same xs ys → xs ≡ ys
rising_alike xs ys h k s = rising_same xs ys h k (λ n. s (one n))
