-- Truth values, numbers and lists, in general.
use Rattle.std.proofs.Common.{◌≡◌, ℕ, zero, suc, ◌≤◌, Bool, true, false, List, [], ◌∷◌, ◌++◌, length, refl, ap, arith}
use Rattle.std.specs.Prelude.{Some, None, ◌==◌, ◌&&◌, ◌||◌, slice_get, slice_set}

-- TRUTH VALUES
pub and_left : (a b : Bool) → (a && b) ≡ true → a ≡ true
and_left true b h = refl
and_left false b h = cc

pub and_right : (a b : Bool) → (a && b) ≡ true → b ≡ true
and_right true b h = h
and_right false b h = cc

pub or_right : (a b : Bool) → b ≡ true → (a || b) ≡ true
or_right true b h = refl
or_right false b h = h

pub or_nil : (a : Bool) → (a || false) ≡ a
or_nil true = refl
or_nil false = refl

-- NUMBERS
pub same_is : (a b : ℕ) → (a == b) ≡ true → a ≡ b
same_is a b h = grind arith

pub is_same : (a b : ℕ) → a ≡ b → (a == b) ≡ true
is_same a b h = grind arith

pub other_is : (a b : ℕ) → (a ≡ b → ⊥) → (a == b) ≡ false
other_is a b h = go (a == b) refl
  where
    go : (v : Bool) → (a == b) ≡ v → v ≡ false
    go true e = absurd (h (same_is a b e))
    go false e = refl

-- LISTS
-- nothing is lost in joining nothing
pub none_first : {A : Type 0} (xs ys : List A) → xs ++ ys ≡ [] → (xs ≡ []) × (ys ≡ [])
none_first [] ys e = (refl, e)
none_first (x ∷ xs) ys e = cc

pub set_length : {A : Type 0} (xs : List A) (k : ℕ) (x : A) → length (slice_set xs k x) ≡ length xs
set_length [] k x = refl
set_length (z ∷ xs) zero x = refl
set_length (z ∷ xs) (suc k) x = ap suc (set_length xs k x)

-- the one that was put behind, and the others
pub get_new : {A : Type 0} (xs : List A) (x : A) → slice_get (xs ++ x ∷ []) (length xs) ≡ Some x
get_new [] x = refl
get_new (y ∷ xs) x = get_new xs x

pub get_more : {A : Type 0} (xs : List A) (c : A) (p : ℕ) (x : A) → slice_get xs p ≡ Some x → slice_get (xs ++ c ∷ []) p ≡ Some x
get_more [] c p x e = cc
get_more (d ∷ xs) c zero x e = e
get_more (d ∷ xs) c (suc p) x e = get_more xs c p x e

-- nothing is there from the length on
pub none_above : {A : Type 0} (xs : List A) (p : ℕ) → slice_get xs p ≡ None → length xs ≤ p
none_above [] p e = omega arith
none_above (x ∷ xs) zero e = cc
none_above (x ∷ xs) (suc p) e = let h : length xs ≤ p = none_above xs p e in omega arith
