-- Numbers without leading zeros.
use Rattle.std.proofs.Common.{◌≡◌, ℕ, zero, suc, ◌+◌, ◌*◌, ◌-◌, ◌^◌, ◌<◌, ◌==◌, Bool, true, false, not, ◌||◌, List, [], ◌∷◌, ◌++◌, length, take, drop, get_or, Some, None, refl, ap, sym, ◌∙◌, arith, decimal, take-append-drop}
use Rattle.std.specs.Prelude.{nat_le, if◌then◌else◌}
use Rattle.std.specs.List.{list_all, prefix_len}
use Rattle.std.proofs.lemmas.Bool.{and_parts, and_from, ltb-true, leb-true, le-leb, lt-ltb, eq-eqb, or_right, or_left}
use Rattle.std.proofs.lemmas.Bool.Decides.{nat_tests}
use Rattle.std.proofs.lemmas.List.{take_at, drop_at}
use Rattle.std.proofs.lemmas.Str.Parse.{IsNumeralModel, IsDigitsTest, FoldsDigits, numerals_by_fold}
use Rattle.std.proofs.lemmas.Fmt.{digits_decimal, digits_value-decimal, decimal-digits_value, length-decimal-le, decimal_nonempty, first_decimal, decimal_digit}
use Rattle.plain_machine.specs.Words.{is_digit, begins_with, digits_value}
use Rattle.journal_text.specs.Reading.{is_number, number_by, number_at}
use Rattle.journal_text.proofs.Prefixes.{prefix_of, prefix_passes}
use Rattle.journal_text.proofs.Finding.{tested}

digits_test : IsDigitsTest (λ ds. list_all is_digit ds ≡ true)
digits_test = record {
  empty = refl;
  parts = λ c cs h. (let p = and_parts (is_digit c) (list_all is_digit cs) h in (grind (arith, nat_tests, p.0), p.1));
  more = λ c cs r h. and_from (is_digit c) (list_all is_digit cs) (and_from (nat_le 48 c) (nat_le c 57) (le-leb 48 c r.0) (le-leb c 57 r.1)) h;
}

folds : FoldsDigits digits_value
folds = record { empty = λ n. refl; more = λ n c cs r. ap (λ m. digits_value (m + (c - 48)) cs) (let k : 10 * n ≡ n * 10 = omega arith in k) }

pub own : IsNumeralModel (λ ds. list_all is_digit ds ≡ true) (digits_value 0)
own = numerals_by_fold (λ ds. list_all is_digit ds ≡ true) digits_test digits_value folds

-- WHAT IS WRITTEN IS READ
abbrev leads : List ℕ → Bool
leads digits = begins_with (λ c. c == 48) digits

not_zero_first : (digits : List ℕ) → 48 < get_or digits 0 0 → leads digits ≡ false
not_zero_first [] h = refl
not_zero_first (c ∷ digits) h = grind (arith, nat_tests)

unled : (n : ℕ) → n < 2 ^ 32 → ((length (decimal n) == 1) || not (leads (decimal n))) ≡ true
unled zero small = or_left (length (decimal 0) == 1) (not (leads (decimal 0))) (eq-eqb (length (decimal 0)) 1 (ap length (decimal_digit 0 (omega arith))))
unled (suc n) small =
    or_right (length (decimal (suc n)) == 1) (not (leads (decimal (suc n)))) (ap not (not_zero_first (decimal (suc n)) (first_decimal (suc n) (omega arith) (omega arith))))

pub decimal_is_number : (n : ℕ) → n < 2 ^ 32 → is_number (decimal n) ≡ true
decimal_is_number n small =
    let some = le-leb 1 (length (decimal n)) (decimal_nonempty n (omega arith)) in
    let few = le-leb (length (decimal n)) 10 (length-decimal-le 10 n (omega arith) (omega arith) (omega arith)) in
    let value = digits_value-decimal own n (omega arith) in
    let below = lt-ltb (digits_value 0 (decimal n)) (2 ^ 32) (rw value small) in
    and_from _ _ some (and_from _ _ few (and_from _ _ (unled n small) below))

pub number_there : (n c : ℕ) (rest : List ℕ) → n < 2 ^ 32 → is_digit c ≡ false → number_at (decimal n ++ c ∷ rest) ≡ Some (n, c ∷ rest)
number_there n c rest small stops =
    let far = prefix_of is_digit (decimal n) c rest (digits_decimal own n (omega arith)) stops in
    ap (λ k. number_by (take k (decimal n ++ c ∷ rest)) (drop k (decimal n ++ c ∷ rest))) far
    ∙ ap (λ l. number_by l (drop (length (decimal n)) (decimal n ++ c ∷ rest))) (take_at (decimal n) (c ∷ rest) (length (decimal n)) refl)
    ∙ ap (λ l. number_by (decimal n) l) (drop_at (decimal n) (c ∷ rest) (length (decimal n)) refl)
    ∙ ap (λ t. if t then Some (digits_value 0 (decimal n), c ∷ rest) else None) (decimal_is_number n small)
    ∙ ap (λ m. Some (m, c ∷ rest)) (digits_value-decimal own n (omega arith))

-- WHAT IS READ WAS WRITTEN
pub record IsNumber (bytes : List ℕ) (r : ℕ × List ℕ) : Type 0 where
  pub whole : bytes ≡ decimal r.0 ++ r.1
  pub small : r.0 < 2 ^ 32

one_zero : (digits : List ℕ) → ((length digits == 1) || not (leads digits)) ≡ true → get_or digits 0 0 ≡ 48 → length digits ≡ 1
one_zero [] h z = absurd (omega (arith, z))
one_zero (c ∷ digits) h z = grind (arith, nat_tests)

pub number_is : (digits : List ℕ) → list_all is_digit digits ≡ true → is_number digits ≡ true → (decimal (digits_value 0 digits) ≡ digits) × (digits_value 0 digits < 2 ^ 32)
number_is digits all h =
    let a = and_parts _ _ h in
    let b = and_parts _ _ a.1 in
    let d = and_parts _ _ b.1 in
    let small : digits_value 0 digits < 2 ^ 32 = ltb-true (digits_value 0 digits) (2 ^ 32) d.1 in (
      decimal-digits_value own digits all (leb-true 1 (length digits) a.0) (one_zero digits d.0) (omega arith),
      small,
    )

pub number_found : (bytes : List ℕ) (r : ℕ × List ℕ) → number_at bytes ≡ Some r → IsNumber bytes r
number_found bytes r h =
    let k = prefix_len is_digit bytes in
    let t = tested (is_number (take k bytes)) (digits_value 0 (take k bytes), drop k bytes) r h in
    let n = number_is (take k bytes) (prefix_passes is_digit bytes) t.0 in
    let value : digits_value 0 (take k bytes) ≡ r.0 = ap (λ (x : ℕ × List ℕ). x.0) t.1 in
    let rest : drop k bytes ≡ r.1 = ap (λ (x : ℕ × List ℕ). x.1) t.1 in
    record {
      whole = sym (take-append-drop k bytes) ∙ ap (λ l. l ++ drop k bytes) (sym n.0) ∙ ap (λ m. decimal m ++ drop k bytes) value ∙ ap (λ l. decimal r.0 ++ l) rest;
      small = rw (← value) n.1;
    }
