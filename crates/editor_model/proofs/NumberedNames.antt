-- Names that are the same, numbered names that differ, and how many of some numbers pass a test: what
-- finding a free name for a buffer and for a process stands on.
use Rattle.std.proofs.Common.{◌≡◌, ℕ, zero, suc, ◌+◌, ◌^◌, ◌<◌, ◌≤◌, Bool, true, false, List, [], ◌∷◌, ◌++◌, map, refl, ap, arith}
use Rattle.std.specs.Prelude.{◌||◌, codes, decimal}
use Rattle.std.proofs.lemmas.Bool.{and_parts}
use Rattle.std.proofs.lemmas.Fmt.{decimal_injective}
use Rattle.std.proofs.lemmas.List.{append_cancel_left, append_cancel_right}
use Rattle.text_model.specs.Characters.{Scalar}
use Rattle.text_model.specs.Properties.{same_ch}
use Rattle.text_model.proofs.Sameness.{same_ch-same, same_ch-sound}
use Rattle.editor_model.specs.Editor.{Name, same_name, numbered_name}

-- NAMES
pub same_name-same : (n : Name) → same_name n n ≡ true
same_name-same [] = refl
same_name-same (c ∷ n) = rw (same_ch-same c, same_name-same n) refl

pub same_name-sound : (a b : Name) → same_name a b ≡ true → a ≡ b
same_name-sound [] [] e = refl
same_name-sound [] (y ∷ ys) e = cc
same_name-sound (x ∷ xs) [] e = cc
same_name-sound (x ∷ xs) (y ∷ ys) e =
    let t : (same_ch x y ≡ true) × (same_name xs ys ≡ true) = and_parts _ _ e in
    let p : x ≡ y = same_ch-sound x y t.0 in
    let q : xs ≡ ys = same_name-sound xs ys t.1 in
    cc

-- COUNTING
abbrev one : Bool → ℕ
one true = 1
one false = 0

-- how many of so many numbers from n on pass a test
abbrev pub hits : (count n : ℕ) → (ℕ → Bool) → ℕ
hits zero n t = 0
hits (suc count) n t = one (t n) + hits count (n + 1) t

one_or : (a b : Bool) → one (a || b) ≤ one a + one b
one_or true b = omega arith
one_or false b = omega arith

pub hits_or : (count n : ℕ) (a b : ℕ → Bool) → hits count n (λ m. a m || b m) ≤ hits count n a + hits count n b
hits_or zero n a b = omega arith
hits_or (suc count) n a b = omega (arith, one_or (a n) (b n), hits_or count (n + 1) a b)

pub hits_none : (count n : ℕ) (t : ℕ → Bool) → ((m : ℕ) → n ≤ m → m < n + count → t m ≡ false) → hits count n t ≡ 0
hits_none zero n t h = refl
hits_none (suc count) n t h =
    let first : one (t n) ≡ 0 = ap one (h n (omega arith) (omega arith)) in
    omega (arith, first, hits_none count (n + 1) t (λ m l u. h m (omega arith) (omega arith)))

pub hits_all : (count n : ℕ) (t : ℕ → Bool) → ((m : ℕ) → n ≤ m → m < n + count → t m ≡ true) → hits count n t ≡ count
hits_all zero n t h = refl
hits_all (suc count) n t h =
    let first : one (t n) ≡ 1 = ap one (h n (omega arith) (omega arith)) in
    omega (arith, first, hits_all count (n + 1) t (λ m l u. h m (omega arith) (omega arith)))

-- a test that no two numbers below a bound pass is passed once at most
pub hits_once : (count n : ℕ) (t : ℕ → Bool) → ((m k : ℕ) → m < n + count → k < n + count → t m ≡ true → t k ≡ true → m ≡ k) → hits count n t ≤ 1
hits_once zero n t h = omega arith
hits_once (suc count) n t h = go (t n) refl (hits_once count (n + 1) t (λ m k um uk. h m k (omega arith) (omega arith)))
  where
    go : (b : Bool) → t n ≡ b → hits count (n + 1) t ≤ 1 → one (t n) + hits count (n + 1) t ≤ 1
    go false e rest = let first : one (t n) ≡ 0 = ap one e in omega arith
    go true e rest =
        let first : one (t n) ≡ 1 = ap one e in
        let others : hits count (n + 1) t ≡ 0 = hits_none count (n + 1) t (λ m l u. other (t m) m refl l u e) in
        omega arith
      where
        other : (b : Bool) (m : ℕ) → t m ≡ b → n + 1 ≤ m → m < n + 1 + count → t n ≡ true → t m ≡ false
        other false m f l u here = f
        other true m f l u here = let same : m ≡ n = h m n (omega arith) (omega arith) f here in absurd (omega arith)

pub hits_same : (count n : ℕ) (a b : ℕ → Bool) → ((m : ℕ) → a m ≡ b m) → hits count n a ≡ hits count n b
hits_same zero n a b h = refl
hits_same (suc count) n a b h =
    let first : one (a n) ≡ one (b n) = ap one (h n) in
    omega (arith, first, hits_same count (n + 1) a b h)

-- NUMBERED NAMES
scalars_same : (xs ys : List ℕ) → map Scalar xs ≡ map Scalar ys → xs ≡ ys
scalars_same [] [] e = refl
scalars_same [] (y ∷ ys) e = cc
scalars_same (x ∷ xs) [] e = cc
scalars_same (x ∷ xs) (y ∷ ys) e =
    let first : x ≡ y = cc in
    let rest : map Scalar xs ≡ map Scalar ys = cc in
    let others : xs ≡ ys = scalars_same xs ys rest in
    cc

pub numbers_differ : (name : Name) (m k : ℕ) → m < 2 ^ 64 → k < 2 ^ 64 → numbered_name name m ≡ numbered_name name k → m ≡ k
numbers_differ name m k fits_m fits_k e =
    decimal_injective m k fits_m fits_k
    (append_cancel_right (decimal m) (decimal k) (codes ">")
    (append_cancel_left (codes "<") (decimal m ++ codes ">") (decimal k ++ codes ">")
    (scalars_same (codes "<" ++ (decimal m ++ codes ">")) (codes "<" ++ (decimal k ++ codes ">"))
    (append_cancel_left name (map Scalar (codes "<" ++ (decimal m ++ codes ">"))) (map Scalar (codes "<" ++ (decimal k ++ codes ">"))) e))))
