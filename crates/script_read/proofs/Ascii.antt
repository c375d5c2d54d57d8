-- Bytes of ASCII are characters by themselves.
use Rattle.std.proofs.Common.{◌≡◌, ℕ, zero, suc, ◌<◌, List, [], ◌∷◌, ◌++◌, Bool, true, false, map, refl, sym, ap, ◌∙◌, append-nil, arith}
use Rattle.std.specs.Prelude.{MatchBool}
use Rattle.std.specs.Str.{IsAscii, IsNotAscii}
use Rattle.std.specs.List.{list_all}
use Rattle.std.proofs.lemmas.Bool.{and_parts}
use Rattle.std.proofs.lemmas.Bool.Decides.{nat_tests}
use Rattle.text_model.specs.Characters.{Ch, Scalar}
use Rattle.text_model.specs.Decoding.{characters, tail, all_characters}
use Rattle.text_model.proofs.Decodings.{characters-whole, tail-whole}
use Rattle.utf8_stream.proofs.Fronts.{front_ascii}
use Rattle.script_read.specs.Strings.{is_ascii}

low : (b : ℕ) → is_ascii b ≡ true → b < 0x80
low b e = grind (arith, nat_tests)

ascii_characters : (x : List ℕ) → list_all is_ascii x ≡ true → characters x ≡ map Scalar x
ascii_characters [] all = refl
ascii_characters (b ∷ x) all =
    let h = and_parts (is_ascii b) (list_all is_ascii x) all in
    characters-whole b x (b ∷ []) (front_ascii b x (low b h.0)) ∙ ap (λ l. Scalar b ∷ l) (ascii_characters x h.1)

ascii_tail : (x : List ℕ) → list_all is_ascii x ≡ true → tail x ≡ []
ascii_tail [] all = refl
ascii_tail (b ∷ x) all =
    let h = and_parts (is_ascii b) (list_all is_ascii x) all in
    tail-whole b x (b ∷ []) (front_ascii b x (low b h.0)) ∙ ascii_tail x h.1

pub ascii_all : (x : List ℕ) → list_all is_ascii x ≡ true → all_characters x ≡ map Scalar x
ascii_all x all = rw (ascii_characters x all, ascii_tail x all) (append-nil (map Scalar x))

pub ascii_put : (old new : List Ch) (run : List ℕ) → list_all is_ascii run ≡ true → new ≡ old ++ map Scalar run → new ≡ old ++ all_characters run
ascii_put old new run all e = rw (e, ascii_all run all) refl

-- A TEST OF ALL BYTES AT ONCE
all_low : (x : List ℕ) → IsAscii x → list_all is_ascii x ≡ true
all_low [] low = refl
all_low (b ∷ x) low =
    let first : is_ascii b ≡ true = grind (arith, nat_tests, low 0) in
    rw (first, all_low x (λ i. low (suc i))) refl

none_high : (x : List ℕ) → list_all is_ascii x ≡ true → IsAscii x
none_high [] all i = omega arith
none_high (b ∷ x) all zero = low b (and_parts (is_ascii b) (list_all is_ascii x) all).0
none_high (b ∷ x) all (suc i) = none_high x (and_parts (is_ascii b) (list_all is_ascii x) all).1 i

pub ascii_test : (x : List ℕ) (t : Bool) → MatchBool t (IsAscii x) (IsNotAscii x) → t ≡ list_all is_ascii x
ascii_test x true low = sym (all_low x low)
ascii_test x false (i, high) = by_test (list_all is_ascii x) refl
  where
    by_test : (t : Bool) → list_all is_ascii x ≡ t → false ≡ list_all is_ascii x
    by_test true e = let low = none_high x e i in absurd (omega (arith, high, low))
    by_test false e = sym e
