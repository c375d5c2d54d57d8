-- What holds by cases, of truth values and of results.
use Rattle.std.proofs.Common.{◌≡◌, Bool, true, false, refl, sym}
use Rattle.std.specs.Prelude.{if◌then◌else◌, Result, Ok, Err, IfOk}

-- TESTS
pub by_test : {A : Type 0} (P : A → Type 0) (b : Bool) (x y : A) → (b ≡ true → P x) → (b ≡ false → P y) → P (if b then x else y)
by_test P true x y h k = h refl
by_test P false x y h k = k refl

pub if_true : {A : Type 0} {b : Bool} {x : A} (y : A) → b ≡ true → (if b then x else y) ≡ x
if_true {b = true} y h = refl
if_true {b = false} y h = cc

pub if_false : {A : Type 0} {b : Bool} (x : A) {y : A} → b ≡ false → (if b then x else y) ≡ y
if_false {b = false} x h = refl
if_false {b = true} x h = cc

-- two tests that hold together are one
pub same_tests : (s t : Bool) → (s ≡ true → t ≡ true) → (t ≡ true → s ≡ true) → s ≡ t
same_tests true true h k = refl
same_tests false false h k = refl
same_tests true false h k = sym (h refl)
same_tests false true h k = k refl

-- RESULTS
pub IfOk-weaker : {T E : Type 0} (P Q : T → Type 0) → ((x : T) → P x → Q x) → (r : Result T E) → IfOk r P → IfOk r Q
IfOk-weaker P Q f (Ok x) h = f x h
IfOk-weaker P Q f (Err e) h = tt
