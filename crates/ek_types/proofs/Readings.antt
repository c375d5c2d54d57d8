-- Codes read as characters.
use Rattle.std.proofs.Common.{◌≡◌, ℕ, zero, suc, ◌+◌, ◌-◌, ◌<◌, ◌≤◌, Bool, true, false, List, [], ◌∷◌, ◌++◌, length, get_or, take, drop, map, refl, ap, subst, arith, Option, Some, None, IsSome, slice_get, filter_map, if◌then◌else◌, sym, ◌∙◌}
use Rattle.std.proofs.lemmas.Bool.Decides.{nat_tests}
use Rattle.std.proofs.lemmas.Option.{slice_get-get_or}
use Rattle.std.proofs.lemmas.List.Elements.{filter_map-append}
use Rattle.text_model.proofs.Lists.{take_one_more}
use lib.Pointwise.{pointwise}
use Rattle.std.specs.Prelude.{◌==◌}
use Rattle.text_model.specs.Properties.{same_list, same_ch}
use Rattle.std.specs.Char.{IsScalar}
use Rattle.text_model.specs.Characters.{Ch, Scalar, Raw, IsCharacter, code, from_code, is_scalar_code, is_raw_code}
use Rattle.ek_types.specs.Seen.{AreCharacters, AreCodes}

scalar_range : (c : ℕ) → IsScalar c → is_scalar_code c ≡ true
scalar_range c h = grind (arith, nat_tests)

scalar_of_range : (c : ℕ) → is_scalar_code c ≡ true → IsScalar c
scalar_of_range c h = grind (arith, nat_tests)

raw_not_scalar : (b : ℕ) → 0x80 ≤ b → b ≤ 0xFF → is_scalar_code (0x3FFF00 + b) ≡ false
raw_not_scalar b h k = grind (arith, nat_tests)

raw_range : (b : ℕ) → 0x80 ≤ b → b ≤ 0xFF → is_raw_code (0x3FFF00 + b) ≡ true
raw_range b h k = grind (arith, nat_tests)

byte_of_range : (n : ℕ) → is_raw_code n ≡ true → (0x80 ≤ n - 0x3FFF00) × (n - 0x3FFF00 ≤ 0xFF)
byte_of_range n h = grind (arith, nat_tests)

pub from_code-code : (c : Ch) → IsCharacter c → from_code (code c) ≡ Some c
from_code-code (Scalar c) h = rw (scalar_range c h) refl
from_code-code (Raw b) h =
    let e : 0x3FFF00 + b - 0x3FFF00 ≡ b = omega arith in
    rw (raw_not_scalar b h.0 h.1, raw_range b h.0 h.1) (ap (λ n. Some (Raw n)) e)

by_tests : (n : ℕ) (s r : Bool) (c : Ch) → is_scalar_code n ≡ s → is_raw_code n ≡ r → (if s then Some (Scalar n) else (if r then Some (Raw (n - 0x3FFF00)) else None)) ≡ Some c → IsCharacter c
by_tests n true r c is raw e =
    let same : Scalar n ≡ c = cc in
    subst IsCharacter same (scalar_of_range n is)
by_tests n false true c is raw e =
    let same : Raw (n - 0x3FFF00) ≡ c = cc in
    subst IsCharacter same (byte_of_range n raw)
by_tests n false false c is raw e = cc

pub character_of_code : (n : ℕ) (c : Ch) → from_code n ≡ Some c → IsCharacter c
character_of_code n c e = by_tests n (is_scalar_code n) (is_raw_code n) c refl refl e

pub are_codes_then : (xs ys : List ℕ) → AreCodes xs → AreCodes ys → AreCodes (xs ++ ys)
are_codes_then [] ys h k = k
are_codes_then (x ∷ xs) ys h k = (h.0, are_codes_then xs ys h.1 k)

pub are_codes_front : (n : ℕ) (xs : List ℕ) → AreCodes xs → AreCodes (take n xs)
are_codes_front zero xs h = tt
are_codes_front (suc n) [] h = tt
are_codes_front (suc n) (x ∷ xs) h = (h.0, are_codes_front n xs h.1)

pub are_codes_back : (n : ℕ) (xs : List ℕ) → AreCodes xs → AreCodes (drop n xs)
are_codes_back zero xs h = h
are_codes_back (suc n) [] h = tt
are_codes_back (suc n) (x ∷ xs) h = are_codes_back n xs h.1

pub are_codes_of : (text : List Ch) → AreCharacters text → AreCodes (map code text)
are_codes_of [] h = tt
are_codes_of (c ∷ text) h = (rw (from_code-code c h.0) refl, are_codes_of text h.1)

pub filter_map-code : (text : List Ch) → AreCharacters text → filter_map from_code (map code text) ≡ text
filter_map-code [] h = refl
filter_map-code (c ∷ text) h = rw (from_code-code c h.0, filter_map-code text h.1) refl

-- one more character
pub codes_then : (xs : List ℕ) (c : Ch) → AreCodes xs → IsCharacter c → AreCodes (xs ++ code c ∷ [])
codes_then xs c h k = are_codes_then xs (code c ∷ []) h (are_codes_of (c ∷ []) (k, tt))

pub read_then : (xs : List ℕ) (c : Ch) → IsCharacter c → filter_map from_code (xs ++ code c ∷ []) ≡ filter_map from_code xs ++ c ∷ []
read_then xs c k = filter_map-append from_code xs (code c ∷ []) ∙ ap (λ l. filter_map from_code xs ++ l) (filter_map-code (c ∷ []) (k, tt))

-- bytes, each as the code of the character of its number
byte_code : (b : ℕ) → b < 256 → from_code b ≡ Some (Scalar b)
byte_code b h = from_code-code (Scalar b) (scalar_of_range b (grind (arith, nat_tests)))

pub are_codes_bytes : (xs : List ℕ) → ((i : ℕ) → get_or xs i 0 < 256) → AreCodes xs
are_codes_bytes [] h = tt
are_codes_bytes (x ∷ xs) h = (rw (byte_code x (h 0)) refl, are_codes_bytes xs (λ i. h (suc i)))

pub filter_map-bytes : (xs : List ℕ) → ((i : ℕ) → get_or xs i 0 < 256) → filter_map from_code xs ≡ map Scalar xs
filter_map-bytes [] h = refl
filter_map-bytes (x ∷ xs) h = rw (byte_code x (h 0), filter_map-bytes xs (λ i. h (suc i))) refl

-- one code, that of a character
some_of : (o : Option Ch) → IsSome o → (c : Ch) × (o ≡ Some c)
some_of None h = cc
some_of (Some c) h = (c, refl)

pub read_one : (x : ℕ) → IsSome (from_code x) → (c : Ch) × (from_code x ≡ Some c)
read_one x h = some_of (from_code x) h

pub are_characters_read : (xs : List ℕ) → AreCodes xs → AreCharacters (filter_map from_code xs)
are_characters_read [] h = tt
are_characters_read (x ∷ xs) h =
    let one = read_one x h.0 in
    rw one.1 (character_of_code x one.0 one.1, are_characters_read xs h.1)

pub length-read : (xs : List ℕ) → AreCodes xs → length (filter_map from_code xs) ≡ length xs
length-read [] h = refl
length-read (x ∷ xs) h =
    let one = read_one x h.0 in
    rw (one.1, length-read xs h.1) refl

pub take-read : (n : ℕ) (xs : List ℕ) → AreCodes xs → filter_map from_code (take n xs) ≡ take n (filter_map from_code xs)
take-read zero xs h = refl
take-read (suc n) [] h = refl
take-read (suc n) (x ∷ xs) h =
    let one = read_one x h.0 in
    rw (one.1, take-read n xs h.1) refl

pub drop-read : (n : ℕ) (xs : List ℕ) → AreCodes xs → filter_map from_code (drop n xs) ≡ drop n (filter_map from_code xs)
drop-read zero xs h = refl
drop-read (suc n) [] h = refl
drop-read (suc n) (x ∷ xs) h =
    let one = read_one x h.0 in
    rw one.1 (drop-read n xs h.1)

pub slice_get-read : (i : ℕ) (xs : List ℕ) (d : ℕ) → AreCodes xs → i < length xs → slice_get (filter_map from_code xs) i ≡ from_code (get_or xs i d)
slice_get-read i [] d h l = absurd (omega arith)
slice_get-read zero (x ∷ xs) d h l =
    let one = read_one x h.0 in
    rw one.1 refl
slice_get-read (suc i) (x ∷ xs) d h l =
    let one = read_one x h.0 in
    rw one.1 (slice_get-read i xs d h.1 (omega arith))

pub some_at : (i : ℕ) (xs : List ℕ) (d : ℕ) → AreCodes xs → i < length xs → from_code (get_or xs i d) ≡ None → ⊥
some_at i [] d h l e = absurd (omega arith)
some_at zero (x ∷ xs) d h l e = let one = read_one x h.0 in cc
some_at (suc i) (x ∷ xs) d h l e = some_at i xs d h.1 (omega arith) e

-- the code of a character that was read
raw_sum : (n : ℕ) → is_raw_code n ≡ true → 0x3FFF00 + (n - 0x3FFF00) ≡ n
raw_sum n h = let range = byte_of_range n h in omega (arith, range.0)

code_by_tests : (n : ℕ) (s r : Bool) (c : Ch) → is_scalar_code n ≡ s → is_raw_code n ≡ r → (if s then Some (Scalar n) else (if r then Some (Raw (n - 0x3FFF00)) else None)) ≡ Some c → code c ≡ n
code_by_tests n true r c is raw e =
    let same : Scalar n ≡ c = cc in
    subst (λ (d : Ch). code d ≡ n) same refl
code_by_tests n false true c is raw e =
    let same : Raw (n - 0x3FFF00) ≡ c = cc in
    subst (λ (d : Ch). code d ≡ n) same (raw_sum n raw)
code_by_tests n false false c is raw e = cc

code_of_read : (n : ℕ) (c : Ch) → from_code n ≡ Some c → code c ≡ n
code_of_read n c e = code_by_tests n (is_scalar_code n) (is_raw_code n) c refl refl e

pub codes_of_read : (xs : List ℕ) → AreCodes xs → map code (filter_map from_code xs) ≡ xs
codes_of_read [] h = refl
codes_of_read (x ∷ xs) h =
    let one = read_one x h.0 in
    rw (one.1, code_of_read x one.0 one.1, codes_of_read xs h.1) refl

-- some of the codes are those of some of the characters
pub part_of_read : (at n : ℕ) (xs : List ℕ) → AreCodes xs → take n (drop at xs) ≡ map code (take n (drop at (filter_map from_code xs)))
part_of_read at n xs h =
    let behind : AreCodes (drop at xs) = are_codes_back at xs h in
    sym (codes_of_read (take n (drop at xs)) (are_codes_front n (drop at xs) behind))
    ∙ ap (map code) (take-read n (drop at xs) behind ∙ ap (take n) (drop-read at xs h))

-- one more code that is read
pub read_more : (xs : List ℕ) (i : ℕ) (c : Ch) → i < length xs → from_code (get_or xs i 0) ≡ Some c → filter_map from_code (take (i + 1) xs) ≡ filter_map from_code (take i xs) ++ c ∷ []
read_more xs i c l e =
    let one : filter_map from_code (get_or xs i 0 ∷ []) ≡ c ∷ [] = rw e refl in
    rw (take_one_more xs i (get_or xs i 0) (slice_get-get_or xs i 0 l), filter_map-append from_code (take i xs) (get_or xs i 0 ∷ []), one) refl

-- texts are the same just where their codes are
same_code : (a b : Ch) → IsCharacter a → IsCharacter b → same_ch a b ≡ (code a == code b)
same_code (Scalar a) (Scalar b) h k = refl
same_code (Raw a) (Raw b) h k = grind (arith, nat_tests)
same_code (Scalar a) (Raw b) h k = grind (arith, nat_tests)
same_code (Raw a) (Scalar b) h k = grind (arith, nat_tests)

pub same_codes : (xs ys : List Ch) → AreCharacters xs → AreCharacters ys → pointwise (λ a b. a == b) (map code xs) (map code ys) ≡ same_list same_ch xs ys
same_codes [] [] h k = refl
same_codes [] (y ∷ ys) h k = refl
same_codes (x ∷ xs) [] h k = refl
same_codes (x ∷ xs) (y ∷ ys) h k = rw (same_code x y h.0 k.0, same_codes xs ys h.1 k.1) refl
