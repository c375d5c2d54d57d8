-- Lists of numbers that rise are the same where each number stands as often in either.
use Rattle.std.proofs.Common.{◌≡◌, ℕ, suc, ◌+◌, ◌<◌, ◌≤◌, Bool, true, false, ◌==◌, if◌then◌else◌, List, [], ◌∷◌, length, get_or, refl, ap, sym, arith}
use Rattle.std.specs.List.Sorted.{IsNonDecreasing}
use Rattle.std.proofs.lemmas.Bool.{eqb-true, eq-eqb}

-- COUNTING
abbrev pub total : {X : Type 0} → (X → ℕ) → List X → ℕ
total f [] = 0
total f (x ∷ xs) = f x + total f xs

abbrev pub count : Bool → ℕ
count t = if t then 1 else 0

abbrev pub one : (k x : ℕ) → ℕ
one k x = count (x == k)

pub one_here : (k x : ℕ) → x ≡ k → one k x ≡ 1
one_here k x e = ap count (eq-eqb x k e)

-- how often a number stands in a list
abbrev pub times : ℕ → List ℕ → ℕ
times k xs = total (one k) xs

pub first_there : (x : ℕ) (xs ys : List ℕ) → times x (x ∷ xs) ≡ times x ys → 0 < times x ys
first_there x xs ys h = let here : one x x ≡ 1 = one_here x x refl in omega arith

-- RISING NUMBERS
abbrev pub Below : ℕ → List ℕ → Type 0
Below n [] = Unit {0}
Below n (x ∷ xs) = (n ≤ x) × Below n xs

abbrev pub Rises : List ℕ → Type 0
Rises [] = Unit {0}
Rises (x ∷ xs) = Below x xs × Rises xs

below_there : (n x : ℕ) (ys : List ℕ) → Below n ys → 0 < times x ys → n ≤ x
below_there n x [] h k = absurd (omega arith)
below_there n x (y ∷ ys) h k = by_test (below_there n x ys h.1) (y == x) refl
  where
    by_test : (0 < times x ys → n ≤ x) → (t : Bool) → (y == x) ≡ t → n ≤ x
    by_test ih true e = let same : y ≡ x = eqb-true y x e in let low = h.0 in omega arith
    by_test ih false e = let p : times x (y ∷ ys) ≡ 0 + times x ys = rw e refl in ih (omega arith)

-- as `below_there`, of a list that begins with the number
head_below : (x : ℕ) (xs : List ℕ) (y : ℕ) → Below x xs → 0 < times y (x ∷ xs) → x ≤ y
head_below x xs y h k = below_there x y (x ∷ xs) (omega arith, h) k

pub rising_same : (xs ys : List ℕ) → Rises xs → Rises ys → ((k : ℕ) → times k xs ≡ times k ys) → xs ≡ ys
rising_same [] [] h k s = refl
rising_same [] (y ∷ ys) h k s = let here : one y y ≡ 1 = one_here y y refl in let all = s y in absurd (omega arith)
rising_same (x ∷ xs) [] h k s = let here : one x x ≡ 1 = one_here x x refl in let all = s x in absurd (omega arith)
rising_same (x ∷ xs) (y ∷ ys) h k s =
    let low : y ≤ x = head_below y ys x k.0 (first_there x xs (y ∷ ys) (s x)) in
    let high : x ≤ y = head_below x xs y h.0 (first_there y ys (x ∷ xs) (sym (s y))) in
    let same : x ≡ y = omega arith in
    let rest : (n : ℕ) → times n xs ≡ times n ys = λ n. (let all = s n in let e : one n x ≡ one n y = ap (one n) same in omega arith) in
    rw (same, rising_same xs ys h.1 k.1 rest) refl

below_from : (n : ℕ) (xs : List ℕ) → ((j : ℕ) → j < length xs → n ≤ get_or xs j 0) → Below n xs
below_from n [] h = tt
below_from n (x ∷ xs) h = (h 0 (omega arith), below_from n xs (λ j k. h (suc j) (omega arith)))

rises_by : (xs : List ℕ) → ((i j : ℕ) → i ≤ j → j < length xs → get_or xs i 0 ≤ get_or xs j 0) → Rises xs
rises_by [] h = tt
rises_by (x ∷ xs) h = (below_from x xs (λ j k. h 0 (suc j) (omega arith) (omega arith)), rises_by xs (λ i j p k. h (suc i) (suc j) (omega arith) (omega arith)))

pub rises_from : (xs : List ℕ) → IsNonDecreasing xs → Rises xs
rises_from xs h = rises_by xs (λ i j p k. h i j 0 p k)
