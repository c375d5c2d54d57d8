-- Bytes in hexadecimal digits.
use Rattle.std.proofs.Common.{◌≡◌, ℕ, suc, ◌+◌, ◌*◌, ◌/◌, ◌%◌, ◌<◌, ◌≤◌, ◌==◌, true, false, ◌&&◌, List, [], ◌∷◌, ◌++◌, length, take, drop, Some, None, refl, ap, sym, ◌∙◌, arith, take-append-drop}
use Rattle.std.specs.Prelude.{nat_le, if◌then◌else◌}
use Rattle.std.specs.List.{list_all, prefix_len}
use Rattle.std.proofs.lemmas.Bool.{and_parts, and_from, leb-true, le-leb}
use Rattle.std.proofs.lemmas.Bool.Decides.{nat_tests}
use Rattle.std.proofs.lemmas.List.{take_at, drop_at}
use Rattle.journal_text.specs.Lines.{hex_digit, hex}
use Rattle.journal_text.specs.Allowed.{AreBytes}
use Rattle.journal_text.specs.Reading.{is_hex, hex_value, are_pairs, unhex, hex_by, hex_at}
use Rattle.journal_text.proofs.Prefixes.{prefix_of, prefix_passes}
use Rattle.journal_text.proofs.Finding.{tested}

-- DIGITS
pub digit_is_hex : (n : ℕ) → n < 16 → is_hex (hex_digit n) ≡ true
digit_is_hex n small = grind (arith, nat_tests)

pub value_of_digit : (n : ℕ) → n < 16 → hex_value (hex_digit n) ≡ n
value_of_digit n small = grind (arith, nat_tests)

pub value_below : (c : ℕ) → is_hex c ≡ true → hex_value c < 16
value_below c h = grind (arith, nat_tests)

pub digit_of_value : (c : ℕ) → is_hex c ≡ true → hex_digit (hex_value c) ≡ c
digit_of_value c h = grind (arith, nat_tests)

high_part : (h l : ℕ) → l < 16 → (16 * h + l) / 16 ≡ h
high_part h l small = omega arith

low_part : (h l : ℕ) → l < 16 → (16 * h + l) % 16 ≡ l
low_part h l small = omega arith

split_byte : (b : ℕ) → 16 * (b / 16) + b % 16 ≡ b
split_byte b = omega arith

-- WHAT IS WRITTEN IS READ
pub hex_is_hex : (bytes : List ℕ) → AreBytes bytes → list_all is_hex (hex bytes) ≡ true
hex_is_hex [] h = refl
hex_is_hex (b ∷ bytes) h =
    let high : b / 16 < 16 = omega (arith, h.0) in
    let low : b % 16 < 16 = omega arith in
    and_from _ _ (digit_is_hex (b / 16) high) (and_from _ _ (digit_is_hex (b % 16) low) (hex_is_hex bytes h.1))

pub hex_pairs : (bytes : List ℕ) → are_pairs (hex bytes) ≡ true
hex_pairs [] = refl
hex_pairs (b ∷ bytes) = hex_pairs bytes

pub unhex_hex : (bytes : List ℕ) → AreBytes bytes → unhex (hex bytes) ≡ bytes
unhex_hex [] h = refl
unhex_hex (b ∷ bytes) h =
    let high : b / 16 < 16 = omega (arith, h.0) in
    let low : b % 16 < 16 = omega arith in
    rw (value_of_digit (b / 16) high, value_of_digit (b % 16) low, split_byte b, unhex_hex bytes h.1) refl

length_hex : (bytes : List ℕ) → 1 ≤ length bytes → 2 ≤ length (hex bytes)
length_hex [] some = absurd (omega (arith, some))
length_hex (b ∷ bytes) some = omega arith

pub hex_there : (bytes : List ℕ) (c : ℕ) (rest : List ℕ) → 1 ≤ length bytes → AreBytes bytes → is_hex c ≡ false → hex_at (hex bytes ++ c ∷ rest) ≡ Some (bytes, c ∷ rest)
hex_there bytes c rest some all stops =
    let far = prefix_of is_hex (hex bytes) c rest (hex_is_hex bytes all) stops in
    let ok = and_from (are_pairs (hex bytes)) (nat_le 2 (length (hex bytes))) (hex_pairs bytes) (le-leb 2 (length (hex bytes)) (length_hex bytes some)) in
    ap (λ k. hex_by (take k (hex bytes ++ c ∷ rest)) (drop k (hex bytes ++ c ∷ rest))) far
    ∙ ap (λ l. hex_by l (drop (length (hex bytes)) (hex bytes ++ c ∷ rest))) (take_at (hex bytes) (c ∷ rest) (length (hex bytes)) refl)
    ∙ ap (λ l. hex_by (hex bytes) l) (drop_at (hex bytes) (c ∷ rest) (length (hex bytes)) refl)
    ∙ ap (λ t. if t then Some (unhex (hex bytes), c ∷ rest) else None) ok
    ∙ ap (λ l. Some (l, c ∷ rest)) (unhex_hex bytes all)

-- WHAT IS READ WAS WRITTEN
pub hex_unhex : (digits : List ℕ) → list_all is_hex digits ≡ true → are_pairs digits ≡ true → hex (unhex digits) ≡ digits
hex_unhex [] all pairs = refl
hex_unhex (c ∷ []) all pairs = absurd (let k = pairs in cc)
hex_unhex (c ∷ d ∷ digits) all pairs =
    let a = and_parts (is_hex c) (list_all is_hex (d ∷ digits)) all in
    let b = and_parts (is_hex d) (list_all is_hex digits) a.1 in
    let small = value_below d b.0 in
    rw (high_part (hex_value c) (hex_value d) small, low_part (hex_value c) (hex_value d) small, digit_of_value c a.0, digit_of_value d b.0, hex_unhex digits b.1 pairs) refl

pub unhex_bytes : (digits : List ℕ) → list_all is_hex digits ≡ true → AreBytes (unhex digits)
unhex_bytes [] all = tt
unhex_bytes (c ∷ []) all = tt
unhex_bytes (c ∷ d ∷ digits) all =
    let a = and_parts (is_hex c) (list_all is_hex (d ∷ digits)) all in
    let b = and_parts (is_hex d) (list_all is_hex digits) a.1 in (
      omega (arith, value_below c a.0, value_below d b.0),
      unhex_bytes digits b.1,
    )

some_bytes : (digits : List ℕ) → 2 ≤ length digits → 1 ≤ length (unhex digits)
some_bytes [] some = absurd (omega (arith, some))
some_bytes (c ∷ []) some = absurd (omega (arith, some))
some_bytes (c ∷ d ∷ digits) some = omega arith

pub record AreHex (bytes : List ℕ) (r : List ℕ × List ℕ) : Type 0 where
  pub whole : bytes ≡ hex r.0 ++ r.1
  pub some : 1 ≤ length r.0
  pub all : AreBytes r.0

pub hex_found : (bytes : List ℕ) (r : List ℕ × List ℕ) → hex_at bytes ≡ Some r → AreHex bytes r
hex_found bytes r h =
    let k = prefix_len is_hex bytes in
    let t = tested (are_pairs (take k bytes) && nat_le 2 (length (take k bytes))) (unhex (take k bytes), drop k bytes) r h in
    let both = and_parts (are_pairs (take k bytes)) (nat_le 2 (length (take k bytes))) t.0 in
    let value : unhex (take k bytes) ≡ r.0 = ap (λ (x : List ℕ × List ℕ). x.0) t.1 in
    let rest : drop k bytes ≡ r.1 = ap (λ (x : List ℕ × List ℕ). x.1) t.1 in
    let passes = prefix_passes is_hex bytes in
    record {
      whole = sym (take-append-drop k bytes) ∙ ap (λ l. l ++ drop k bytes) (sym (hex_unhex (take k bytes) passes both.0)) ∙ ap (λ l. hex l ++ drop k bytes) value ∙ ap (λ l. hex r.0 ++ l) rest;
      some = rw (← value) (some_bytes (take k bytes) (leb-true 2 (length (take k bytes)) both.1));
      all = rw (← value) (unhex_bytes (take k bytes) passes);
    }

-- an even number of digits
even_more : (n : ℕ) → suc (suc n) % 2 ≡ n % 2
even_more n = omega arith

pub pairs_even : (digits : List ℕ) → (length digits % 2 == 0) ≡ are_pairs digits
pairs_even [] = refl
pairs_even (c ∷ []) = refl
pairs_even (c ∷ d ∷ digits) = ap (λ m. m == 0) (even_more (length digits)) ∙ pairs_even digits
