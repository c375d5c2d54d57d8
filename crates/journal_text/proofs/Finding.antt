-- What stands behind something that is found.
use Rattle.std.proofs.Common.{◌≡◌, ℕ, ◌+◌, Bool, true, false, ◌&&◌, List, [], ◌∷◌, ◌++◌, ◌==◌, length, take, drop, Some, None, refl, ap, sym, ◌∙◌, arith}
use Rattle.std.specs.Prelude.{Option, MatchOption, option_map, if◌then◌else◌}
use Rattle.std.proofs.lemmas.Bool.{eqb-true, eq-eqb}
use Rattle.std.proofs.lemmas.Bool.Decides.{nat_tests}
use lib.Pointwise.{pointwise}
use Rattle.text_model.specs.Options.{◌>>=◌}
use Rattle.journal_text.specs.Reading.{behind, choose, Found}

-- some bytes stand first
pub behind_is : (text bytes rest : List ℕ) → behind text bytes ≡ Some rest → bytes ≡ text ++ rest
behind_is [] bytes rest h = let k = h in cc
behind_is (c ∷ text) [] rest h = absurd (let k = h in cc)
behind_is (c ∷ text) (b ∷ bytes) rest h = by (c == b) refl h (behind_is text bytes rest)
  where
    by : (t : Bool) → (c == b) ≡ t → (if t then behind text bytes else None) ≡ Some rest → (behind text bytes ≡ Some rest → bytes ≡ text ++ rest) → b ∷ bytes ≡ c ∷ (text ++ rest)
    by true e h more = ap (λ x. x ∷ bytes) (sym (eqb-true c b e)) ∙ ap (λ l. c ∷ l) (more h)
    by false e h more = absurd (let k = h in cc)

turned : (c b : ℕ) → (c == b) ≡ (b == c)
turned c b = grind (arith, nat_tests)

-- they do where the front that is as long is the same
behind_front : (text bytes : List ℕ) → behind text bytes ≡ (if pointwise ◌==◌ (take (length text) bytes) text then Some (drop (length text) bytes) else None)
behind_front [] bytes = refl
behind_front (c ∷ text) [] = refl
behind_front (c ∷ text) (b ∷ bytes) = rw (turned c b, behind_front text bytes) (by (b == c) (pointwise ◌==◌ (take (length text) bytes) text))
  where
    by : (t u : Bool) → (if t then (if u then Some (drop (length text) bytes) else None) else None) ≡ (if t && u then Some (drop (length text) bytes) else None)
    by true u = refl
    by false u = refl

-- so a prefix that is stripped leaves what follows it
pub stripped : {R : Type 0} (seen : R → List ℕ) (text bytes : List ℕ) (r : Option R)
    → MatchOption r (pointwise ◌==◌ (take (length text) bytes) text ≡ false) (λ x. (pointwise ◌==◌ (take (length text) bytes) text ≡ true) × (seen x ≡ drop (length text) bytes) × (length (seen x) + length text ≡ length bytes))
    → option_map seen r ≡ behind text bytes
stripped seen text bytes None h = sym (behind_front text bytes ∙ ap (λ t. if t then Some (drop (length text) bytes) else None) h)
stripped seen text bytes (Some x) h = ap (λ l. Some l) h.1 ∙ sym (behind_front text bytes ∙ ap (λ t. if t then Some (drop (length text) bytes) else None) h.0)

pub behind_there : (text rest : List ℕ) → behind text (text ++ rest) ≡ Some rest
behind_there [] rest = refl
behind_there (c ∷ text) rest = rw (eq-eqb c c refl) (behind_there text rest)

pub same_some : {A : Type 0} (x y : A) → ◌≡◌ {A = Option A} (Some x) (Some y) → x ≡ y
same_some x y h = let k = h in cc

-- one thing and then another
pub record Bound {A B : Type 0} (o : Option A) (f : A → Option B) (y : B) : Type 0 where
  pub x : A
  pub first : o ≡ Some x
  pub next : f x ≡ Some y

pub bound : {A B : Type 0} (o : Option A) (f : A → Option B) (y : B) → (o >>= f) ≡ Some y → Bound o f y
bound None f y h = absurd (let k = h in cc)
bound (Some x) f y h = record { x = x; first = refl; next = h }

-- one thing or another
pub data Chosen {A : Type 0} (o : Option (List ℕ)) (one : List ℕ → Found A) (other : Found A) (y : A × List ℕ) : Type 0 where
  here : (rest : List ℕ) → o ≡ Some rest → one rest ≡ Some y → Chosen o one other y
  there : o ≡ None → other ≡ Some y → Chosen o one other y

pub chosen : {A : Type 0} (o : Option (List ℕ)) (one : List ℕ → Found A) (other : Found A) (y : A × List ℕ) → choose o one other ≡ Some y → Chosen o one other y
chosen (Some rest) one other y h = here rest refl h
chosen None one other y h = there refl h

-- a choice by a test
pub tested : {A : Type 0} (t : Bool) (x y : A) → (if t then Some x else None) ≡ Some y → (t ≡ true) × (x ≡ y)
tested true x y h = (refl, let k = h in cc)
tested false x y h = absurd (let k = h in cc)

pub tested_then : {A : Type 0} (t : Bool) (o : Option A) (y : A) → (if t then o else None) ≡ Some y → (t ≡ true) × (o ≡ Some y)
tested_then true o y h = (refl, h)
tested_then false o y h = absurd (let k = h in cc)
