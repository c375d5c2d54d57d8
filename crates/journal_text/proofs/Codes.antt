-- Codes.
use Rattle.std.proofs.Common.{◌≡◌, ℕ, zero, suc, ◌+◌, ◌<◌, ◌≤◌, ◌^◌, ◌==◌, ◌&&◌, true, false, ℤ, pos, negsuc, neg_ℤ, List, [], ◌∷◌, ◌++◌, length, Some, None, refl, ap, sym, subst, ◌∙◌, arith, codes, decimal}
use Rattle.std.specs.Prelude.{if◌then◌else◌, nat_lt, nat_le}
use Rattle.std.specs.List.{list_all}
use Rattle.std.proofs.lemmas.Bool.{and_parts, and_from, ltb-true, leb-true, le-leb, lt-ltb}
use Rattle.std.proofs.lemmas.Bool.Decides.{nat_tests}
use Rattle.std.proofs.lemmas.Fmt.{digits_decimal, decimal_nonempty}
use Rattle.text_model.specs.Options.{◌>>=◌}
use Rattle.plain_machine.specs.Lines.{shown_int}
use Rattle.plain_machine.specs.Words.{is_digit}
use Rattle.journal_text.specs.Allowed.{IsCode}
use Rattle.journal_text.specs.Reading.{behind, choose, number_at, from_zero, below_zero, code_at}
use Rattle.journal_text.proofs.Finding.{behind_is, bound, chosen, here, there, tested}
use Rattle.journal_text.proofs.Numbers.{own, number_there, number_found}

no_dash : (digits rest : List ℕ) → list_all is_digit digits ≡ true → 0 < length digits → behind (codes "-") (digits ++ rest) ≡ None
no_dash [] rest all some = absurd (omega (arith, some))
no_dash (c ∷ digits) rest all some =
    let first = (and_parts (is_digit c) (list_all is_digit digits) all).0 in
    let other : (45 == c) ≡ false = grind (arith, nat_tests, first) in
    ap (λ t. if t then Some (digits ++ rest) else None) other

pub code_there : (code : ℤ) (rest : List ℕ) → IsCode code → code_at (shown_int code ++ 10 ∷ rest) ≡ Some (code, 10 ∷ rest)
code_there (pos n) rest small =
    ap (λ o. choose o (λ rest. number_at rest >>= below_zero) (number_at (decimal n ++ 10 ∷ rest) >>= from_zero)) (no_dash (decimal n) (10 ∷ rest) (digits_decimal own n (omega arith)) (decimal_nonempty n (omega arith)))
    ∙ ap (λ o. o >>= from_zero) (number_there n 10 rest (omega arith) refl)
    ∙ ap (λ t. if t then Some (pos n, 10 ∷ rest) else None) (lt-ltb n (2 ^ 31) small)
code_there (negsuc n) rest small =
    let next : n + 1 ≡ suc n = omega arith in
    ap (λ o. o >>= below_zero) (number_there (n + 1) 10 rest (omega arith) refl)
    ∙ ap (λ t. if t then Some (neg_ℤ (pos (n + 1)), 10 ∷ rest) else None) (and_from (nat_le 1 (n + 1)) (nat_le (n + 1) (2 ^ 31)) (le-leb 1 (n + 1) (omega arith)) (le-leb (n + 1) (2 ^ 31) (omega arith)))
    ∙ ap (λ m. Some (neg_ℤ (pos m), 10 ∷ rest)) next

pub record IsCodeAt (bytes : List ℕ) (r : ℤ × List ℕ) : Type 0 where
  pub whole : bytes ≡ shown_int r.0 ++ r.1
  pub is : IsCode r.0

from_zero_found : (bytes : List ℕ) (r : ℤ × List ℕ) → (number_at bytes >>= from_zero) ≡ Some r → IsCodeAt bytes r
from_zero_found bytes r h =
    let b = bound (number_at bytes) from_zero r h in
    let n = number_found bytes b.x b.first in
    let t = tested (nat_lt b.x.0 (2 ^ 31)) (pos b.x.0, b.x.1) r b.next in
    subst (IsCodeAt bytes) t.1 (record { whole = n.whole; is = ltb-true b.x.0 (2 ^ 31) t.0 })

negative : (bytes rest : List ℕ) (n : ℕ) → 1 ≤ n → n ≤ 2 ^ 31 → bytes ≡ decimal n ++ rest → IsCodeAt (45 ∷ bytes) (neg_ℤ (pos n), rest)
negative bytes rest zero some small e = absurd (omega (arith, some))
negative bytes rest (suc n) some small e =
    let next : suc n ≡ n + 1 = omega arith in
    record { whole = ap (λ l. 45 ∷ l) e ∙ ap (λ m. 45 ∷ (decimal m ++ rest)) next; is = omega (arith, small) }

below_zero_found : (bytes : List ℕ) (r : ℤ × List ℕ) → (number_at bytes >>= below_zero) ≡ Some r → IsCodeAt (45 ∷ bytes) r
below_zero_found bytes r h =
    let b = bound (number_at bytes) below_zero r h in
    let n = number_found bytes b.x b.first in
    let t = tested (nat_le 1 b.x.0 && nat_le b.x.0 (2 ^ 31)) (neg_ℤ (pos b.x.0), b.x.1) r b.next in
    let both = and_parts (nat_le 1 b.x.0) (nat_le b.x.0 (2 ^ 31)) t.0 in
    subst (IsCodeAt (45 ∷ bytes)) t.1 (negative bytes b.x.1 b.x.0 (leb-true 1 b.x.0 both.0) (leb-true b.x.0 (2 ^ 31) both.1) n.whole)

pub code_found : (bytes : List ℕ) (r : ℤ × List ℕ) → code_at bytes ≡ Some r → IsCodeAt bytes r
code_found bytes r h = elim (chosen (behind (codes "-") bytes) (λ rest. number_at rest >>= below_zero) (number_at bytes >>= from_zero) r h) [
  | here rest e k ↦ subst (λ l. IsCodeAt l r) (sym (behind_is (codes "-") bytes rest e)) (below_zero_found rest r k)
  | there e k ↦ from_zero_found bytes r k
]
