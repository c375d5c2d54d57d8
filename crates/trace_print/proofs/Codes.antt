-- Characters by their codes.
use Rattle.std.proofs.Common.{◌≡◌, ℕ, zero, suc, ◌+◌, ◌-◌, ◌<◌, ◌≤◌, List, [], ◌∷◌, ◌++◌, length, get_or, take, drop, map, flat_map, slice_get, Option, Some, None, inl, inr, refl, ap, sym, ◌∙◌, arith}
use Rattle.std.proofs.lemmas.List.{length-map, length-drop}
use Rattle.std.specs.Prelude.{SomeIff, MatchOption}
use Rattle.std.specs.Char.{IsScalar, InScalarRange, OutOfScalarRange}
use Rattle.text_model.specs.Characters.{Ch, Scalar, Raw, code}
use Rattle.plain_machine.specs.Lines.{shown_code, shown_ch}
use Rattle.trace_print.proofs.Gathering.{one_on}

scalar_here : (c : Ch) (k : ℕ) → code c ≡ k → k ≤ 0x10FFFF → shown_code k ≡ shown_ch c
scalar_here (Scalar n) k e h = ap shown_code (sym e)
scalar_here (Raw b) k e h = absurd (omega (arith, e, h))

char_at : (chars : List Ch) (n : ℕ) → n < length chars → (c : Ch) × (slice_get chars n ≡ Some c) × (code c ≡ get_or (map code chars) n 0)
char_at [] n h = absurd (omega (arith, h))
char_at (c ∷ chars) zero h = (c, refl, refl)
char_at (c ∷ chars) (suc n) h = char_at chars n (omega (arith, h))

low : (k : ℕ) → InScalarRange k → k ≤ 0x10FFFF
low k (inl h) = omega (arith, h)
low k (inr h) = omega (arith, h.0, h.1)

read : (r : Option ℕ) (k x : ℕ) → SomeIff r (IsScalar k) k → MatchOption r (OutOfScalarRange k) (λ _. InScalarRange k) → r ≡ Some x → (x ≡ k) × (k ≤ 0x10FFFF)
read None k x is range e = cc
read (Some y) k x is range e = let same : y ≡ x = cc in (sym same ∙ is.1, low k range)

-- what stands for one more character, whose code is a scalar value
pub scalar_on : (codes : List ℕ) (chars : List Ch) (n : ℕ) (r : Option ℕ) (x : ℕ) → codes ≡ map code chars → n < length codes → SomeIff r (IsScalar (get_or codes n 0)) (get_or codes n 0)
    → MatchOption r (OutOfScalarRange (get_or codes n 0)) (λ _. InScalarRange (get_or codes n 0)) → r ≡ Some x → flat_map shown_ch (take n chars) ++ shown_code x ≡ flat_map shown_ch (take (n + 1) chars)
scalar_on codes chars n r x are inside is range e =
    let size : length codes ≡ length chars = ap length are ∙ length-map chars code in
    let (c, found, coded) = char_at chars n (omega (arith, size, inside)) in
    let known = read r (get_or codes n 0) x is range e in
    let same : code c ≡ x = coded ∙ ap (λ l. get_or l n 0) (sym are) ∙ sym known.0 in
    ap (λ l. flat_map shown_ch (take n chars) ++ l) (scalar_here c x same (omega (arith, known.0, known.1))) ∙ one_on shown_ch chars n c found

shorter : {A : Type 0} (n : ℕ) (xs : List A) → length (take n xs) ≤ length xs
shorter zero xs = omega arith
shorter (suc n) [] = omega arith
shorter (suc n) (x ∷ xs) = omega (arith, shorter n xs)

-- codes that are lent are of characters behind a place
pub lent_within : (codes : List ℕ) (chars : List Ch) (i : ℕ) → codes ≡ map code (take (length codes) (drop i chars)) → length codes ≤ length chars - i
lent_within codes chars i are =
    omega (arith, ap length are, length-map (take (length codes) (drop i chars)) code, shorter (length codes) (drop i chars), length-drop i chars)

-- what stands for one more character of ASCII
pub low_on : (codes : List ℕ) (chars : List Ch) (n : ℕ) (bytes : List ℕ) → codes ≡ map code chars → n < length codes → bytes ≡ shown_code (get_or codes n 0) → get_or codes n 0 ≤ 127 →
    flat_map shown_ch (take n chars) ++ bytes ≡ flat_map shown_ch (take (n + 1) chars)
low_on codes chars n bytes are inside is low =
    let size : length codes ≡ length chars = ap length are ∙ length-map chars code in
    let (c, found, coded) = char_at chars n (omega (arith, size, inside)) in
    let same : code c ≡ get_or codes n 0 = coded ∙ ap (λ l. get_or l n 0) (sym are) in
    ap (λ l. flat_map shown_ch (take n chars) ++ l) (is ∙ scalar_here c (get_or codes n 0) same (omega (arith, low))) ∙ one_on shown_ch chars n c found
