-- The quote that ends a string in which nothing is escaped.
use Rattle.std.proofs.Common.{◌≡◌, ℕ, ◌+◌, ◌≤◌, ◌==◌, List, [], ◌∷◌, Bool, true, false, cond, length, drop, refl, sym, ap, ◌∙◌, Some, arith}
use Rattle.std.specs.List.{prefix_len}
use Rattle.std.specs.Prelude.{Option, None, unwrap_or, not}
use Rattle.std.proofs.lemmas.List.Sums.{prefix_len_is}
use Rattle.memchr.specs.Find.{IsFirstByte, is_byte2}
use Rattle.std.proofs.Math.Numerals.{one-add}
use Rattle.std.proofs.lemmas.Bool.{false≢true}
use Rattle.plain_machine.specs.Words.{begins_with, is_plain_byte}
use Rattle.script_read.specs.Lexing.{closing_from}
use Rattle.script_read.proofs.Fronts.{begins_within}
use Rattle.script_read.proofs.Insides.{plain_byte}

-- A SEARCH FOR A QUOTE OR A BACKSLASH
not_where : (t : Bool) → (t ≡ true → ⊥) → not t ≡ true
not_where true never = absurd (never refl)
not_where false never = refl

pub plain_front : (bytes : List ℕ) (found : Option ℕ) → IsFirstByte (is_byte2 34 92) bytes found → unwrap_or found (length bytes) ≡ prefix_len is_plain_byte bytes
plain_front bytes None h = sym (prefix_len_is is_plain_byte bytes (length bytes) 0 (omega arith) (λ k less. not_where _ (h k (omega arith) less)) (λ less. absurd (omega (arith, less))))
plain_front bytes (Some n) h =
    let first = h.0 in
    sym (prefix_len_is is_plain_byte bytes n 0 (omega (arith, first.high)) (λ k less. not_where _ (first.before k (omega arith) less)) (λ less. ap not h.1))

one_behind : (m c : ℕ) (bytes : List ℕ) → begins_with (λ c. c == 34) (drop m bytes) ≡ begins_with (λ c. c == 34) (drop (1 + m) (c ∷ bytes))
one_behind m c bytes = rw one-add refl

quote_at : (n c : ℕ) (bytes : List ℕ) → ((k : ℕ) → begins_with (λ c. c == 34) (drop (prefix_len is_plain_byte bytes) bytes) ≡ true → closing_from false k bytes ≡ Some (k + prefix_len is_plain_byte bytes)) → (t : Bool) → is_plain_byte c ≡ t →
    begins_with (λ c. c == 34) (drop (cond t (1 + prefix_len is_plain_byte bytes) 0) (c ∷ bytes)) ≡ true → closing_from false n (c ∷ bytes) ≡ Some (n + cond t (1 + prefix_len is_plain_byte bytes) 0)
quote_at n c bytes known true e found =
    let h = plain_byte c e in
    let m = prefix_len is_plain_byte bytes in
    let rest : closing_from false (n + 1) bytes ≡ Some (n + 1 + m) = known (n + 1) (one_behind m c bytes ∙ found) in
    let same : n + 1 + m ≡ n + (1 + m) = omega arith in
    rw (h.no_quote, h.no_backslash) (rest ∙ ap Some same)
quote_at n c bytes known false e found =
    let quote : (c == 34) ≡ true = found in
    let same : n ≡ n + 0 = omega arith in
    rw quote (ap Some same)

quote_behind : (n : ℕ) (bytes : List ℕ) → begins_with (λ c. c == 34) (drop (prefix_len is_plain_byte bytes) bytes) ≡ true → closing_from false n bytes ≡ Some (n + prefix_len is_plain_byte bytes)
quote_behind n [] found = absurd (false≢true found)
quote_behind n (c ∷ bytes) found = quote_at n c bytes (λ k f. quote_behind k bytes f) (is_plain_byte c) refl found

pub plain_to_quote : (bytes rest : List ℕ) (n : ℕ) → n ≡ prefix_len is_plain_byte bytes → rest ≡ drop n bytes → begins_with (λ c. c == 34) rest ≡ true → closing_from false 0 bytes ≡ Some n
plain_to_quote bytes rest n e r found =
    let begins : begins_with (λ c. c == 34) (drop (prefix_len is_plain_byte bytes) bytes) ≡ true = rw (sym e, sym r) found in
    let same : 0 + prefix_len is_plain_byte bytes ≡ n = omega (arith, e) in
    quote_behind 0 bytes begins ∙ ap Some same

pub quote_within : (bytes rest : List ℕ) (n : ℕ) → rest ≡ drop n bytes → begins_with (λ c. c == 34) rest ≡ true → n + 1 ≤ length bytes
quote_within bytes rest n r found = begins_within (λ c. c == 34) n bytes (rw (sym r) found)
