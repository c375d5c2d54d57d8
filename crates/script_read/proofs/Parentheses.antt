-- A parenthesis is told by its byte alone.
use Rattle.std.proofs.Common.{◌≡◌, ℕ, zero, suc, ◌==◌, Bool, List, [], ◌∷◌, true, false, take, drop, refl, arith, Some, None}
use Rattle.std.proofs.lemmas.Bool.Decides.{nat_tests}
use Rattle.std.specs.Prelude.{if◌then◌else◌}
use Rattle.std.specs.Str.{bytes_eq}
use Rattle.script_read.specs.Parentheses.{is_parenthesis, behind_byte}
use Rattle.script_read.specs.Lexing.{skipped, word_length, behind}

taken_otherwise : (n c p : ℕ) (bytes : List ℕ) → (c == p) ≡ false → bytes_eq (take n (c ∷ bytes)) (p ∷ []) ≡ false
taken_otherwise zero c p bytes e = refl
taken_otherwise (suc n) c p bytes e = rw e refl

same_byte : (c p : ℕ) → (c == p) ≡ true → c ≡ p
same_byte c p e = grind (arith, nat_tests)

is_itself : (p : ℕ) → (p == p) ≡ true
is_itself p = grind (arith, nat_tests)

by_first : (p : ℕ) (bytes : List ℕ) → is_parenthesis p ≡ true → behind_byte p bytes ≡ (if bytes_eq (take (word_length bytes) bytes) (p ∷ []) then Some (drop (word_length bytes) bytes) else None)
by_first p [] e = refl
by_first p (c ∷ bytes) e = by_test (c == p) refl
  where
    by_test : (b : Bool) → (c == p) ≡ b → behind_byte p (c ∷ bytes) ≡ (if bytes_eq (take (word_length (c ∷ bytes)) (c ∷ bytes)) (p ∷ []) then Some (drop (word_length (c ∷ bytes)) (c ∷ bytes)) else None)
    by_test true h = rw (same_byte c p h, e, is_itself p) refl
    by_test false h = rw (h, taken_otherwise (word_length (c ∷ bytes)) c p bytes h) refl

pub parenthesis_behind : (p : ℕ) (bytes : List ℕ) → is_parenthesis p ≡ true → behind_byte p (skipped bytes) ≡ behind (p ∷ []) bytes
parenthesis_behind p bytes e = by_first p (skipped bytes) e
