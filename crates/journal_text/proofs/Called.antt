-- What the texts of a spawn say of its exchange.
use lib.Utf8.{scalar, scalars, next, encode, encodes, scalar_cases}
use Rattle.std.proofs.Common.{◌≡◌, ℕ, ◌+◌, ◌/◌, ◌<◌, ◌≤◌, ◌^◌, Bool, true, false, cond, nat_lt, List, [], ◌∷◌, ◌++◌, map, refl, subst, inl, inr, ◌⊎◌, arith}
use Rattle.std.specs.List.{AllByRecursion}
use Rattle.std.specs.Prelude.{String, string_bytes, IsUtf8, IsTrue, Result, Ok, Err, IfOk}
use Rattle.std.proofs.lemmas.Bool.{and_parts, ltb-true}
use Rattle.std.proofs.lemmas.Str.{IsUtf8-string_bytes}
use Rattle.plain_machine.specs.Exchanges.{Spawn}
use Rattle.host_link.specs.Hosts.{IsNumbered, spawned_answer}
use Rattle.host_link.specs.declared.host.Spawned.{Spawned}
use Rattle.host_link.specs.declared.host.Spawned.TheVariants as spawned
use Rattle.journal_text.specs.Allowed.{AreBytes, has_no_zero, IsText, IsLine}
use Rattle.journal_text.specs.Lined.{IsSpoken}

-- BYTES
bytes_append : (a b : List ℕ) → AreBytes a → AreBytes b → AreBytes (a ++ b)
bytes_append [] b h k = k
bytes_append (x ∷ a) b h k = (h.0, bytes_append a b h.1 k)

-- a character of one to four bytes
of_width : (c : ℕ) (x y z : Bool) → nat_lt c 128 ≡ x → nat_lt c 2048 ≡ y → nat_lt c 65536 ≡ z → c < 1114112 →
    AreBytes (cond x (c ∷ []) (cond y ((192 + c / 64) ∷ next c ∷ []) (cond z ((224 + c / 4096) ∷ next (c / 64) ∷ next c ∷ []) ((240 + c / 262144) ∷ next (c / 4096) ∷ next (c / 64) ∷ next c ∷ []))))
of_width c true y z e f g h = (omega (arith, ltb-true c 128 e), tt)
of_width c false true z e f g h = (omega (arith, ltb-true c 2048 f), (omega arith, tt))
of_width c false false true e f g h = (omega (arith, ltb-true c 65536 g), (omega arith, (omega arith, tt)))
of_width c false false false e f g h = (omega arith, (omega arith, (omega arith, (omega arith, tt))))

of_character : (c : ℕ) → c < 1114112 → AreBytes (encode c)
unfolding encode
of_character c h = of_width c (nat_lt c 128) (nat_lt c 2048) (nat_lt c 65536) refl refl refl h

scalar_below : (c : ℕ) → scalar c ≡ true → c < 1114112
scalar_below c e = by (scalar_cases c e)
  where
    by : (c < 55296) ⊎ ((57344 ≤ c) × (c < 1114112)) → c < 1114112
    by (inl h) = omega arith
    by (inr h) = h.1

of_characters : (text : List ℕ) → scalars text ≡ true → AreBytes (encodes text)
of_characters [] e = tt
of_characters (c ∷ text) e =
    let parts = and_parts (scalar c) (scalars text) e in
    bytes_append (encode c) (encodes text) (of_character c (scalar_below c parts.0)) (of_characters text parts.1)

utf8_bytes : (bytes : List ℕ) → IsUtf8 bytes → AreBytes bytes
utf8_bytes bytes u = subst AreBytes u.1.1 (of_characters u.0 u.1.0)

-- CALLS
-- what is so of an answer by two facts of it
pub both_ok : {T E : Type 0} {P Q R : T → Type 0} (r : Result T E) → ((x : T) → P x → Q x → R x) → IfOk r P → IfOk r Q → IfOk r R
both_ok (Ok x) f p q = f x p q
both_ok (Err e) f p q = tt

-- a text, if it hasn't the byte 0
text : (bytes : List ℕ) → IsUtf8 bytes → IsTrue (has_no_zero bytes) → IsText bytes
text bytes u clean = (utf8_bytes bytes u, u, clean)

texts : {A : Type 0} (words : List (String A)) → AllByRecursion (λ w. IsTrue (has_no_zero w)) (map string_bytes words) → AllByRecursion IsText (map string_bytes words)
texts [] clean = tt
texts (w ∷ words) clean = (text (string_bytes w) (IsUtf8-string_bytes w) clean.0, texts words clean.1)

pub spawn_line : {A : Type 0} (next : ℕ) (program : List ℕ) (args : List (String A)) (s : Spawned) → next < 2 ^ 32 → IsUtf8 program → IsNumbered next s →
    IsSpoken (Spawn program (map string_bytes args)) → IsLine next (record { ask = Spawn program (map string_bytes args); answer = spawned_answer s })
spawn_line next program args (spawned.Started child) small utf8 numbered (name, clean, all) =
    record { asked = (name, text program utf8 clean, texts args all); answered = omega (arith, numbered); allowed = numbered }
spawn_line next program args spawned.Refused small utf8 numbered (name, clean, all) =
    record { asked = (name, text program utf8 clean, texts args all); answered = tt; allowed = tt }
