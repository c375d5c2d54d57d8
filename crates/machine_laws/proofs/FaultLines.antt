-- Two longest fronts of the same bytes are one, so their line feeds are as many.
use Rattle.std.proofs.Common.{◌≡◌, inl, inr, ℕ, ◌+◌, ◌<◌, ◌≤◌, List, [], ◌∷◌, ◌++◌, length, refl, ap, sym, ◌∙◌, arith}
use Rattle.plain_machine.specs.Grammar.{IsLongestFront, line_feeds, longest_script}
use Rattle.machine_laws.specs.FaultLines.{OneFaultLine}

first_same : (x y : ℕ) (xs ys : List ℕ) → (x ∷ xs) ≡ (y ∷ ys) → x ≡ y
first_same x y xs ys e = cc

others_same : (x y : ℕ) (xs ys : List ℕ) → (x ∷ xs) ≡ (y ∷ ys) → xs ≡ ys
others_same x y xs ys e = cc

fronts_same : (xs ys us vs : List ℕ) → xs ++ us ≡ ys ++ vs → length xs ≡ length ys → xs ≡ ys
fronts_same [] [] us vs e h = refl
fronts_same [] (y ∷ ys) us vs e h = absurd (omega arith)
fronts_same (x ∷ xs) [] us vs e h = absurd (omega arith)
fronts_same (x ∷ xs) (y ∷ ys) us vs e h =
    let first : x ≡ y = first_same x y (xs ++ us) (ys ++ vs) e in
    let others : xs ≡ ys = fronts_same xs ys us vs (others_same x y (xs ++ us) (ys ++ vs) e) (omega arith) in
    ap (λ (z : ℕ). z ∷ xs) first ∙ ap (λ (zs : List ℕ). y ∷ zs) others

longest_same : (bytes front other : List ℕ) → IsLongestFront bytes front → IsLongestFront bytes other → front ≡ other
longest_same bytes front other f g =
    let a : length other ≤ length front = f.is_longest other g.rest g.is_front g.is_script in
    let b : length front ≤ length other = g.is_longest front f.rest f.is_front f.is_script in
    fronts_same front other f.rest g.rest (sym f.is_front ∙ g.is_front) (omega arith)

pub one_fault_line : OneFaultLine
one_fault_line bytes line other (inl a) (inl b) = a.1 ∙ sym b.1
one_fault_line bytes line other (inl a) (inr b) = let l : longest_script < length bytes = a.0 in let m : length bytes ≤ longest_script = b.0 in absurd (omega arith)
one_fault_line bytes line other (inr a) (inl b) = let l : longest_script < length bytes = b.0 in let m : length bytes ≤ longest_script = a.0 in absurd (omega arith)
one_fault_line bytes line other (inr a) (inr b) =
    let same : a.1.0 ≡ b.1.0 = longest_same bytes a.1.0 b.1.0 a.1.1 b.1.1 in
    a.1.2 ∙ ap (λ (front : List ℕ). line_feeds front + 1) same ∙ sym b.1.2
