-- The tests of sameness pass exactly where the two are equal.
use Rattle.std.proofs.Common.{◌≡◌, ℕ, Bool, true, List, [], ◌∷◌, refl, ap}
use Rattle.std.specs.Prelude.{◌==◌, ◌&&◌, Option, Some, None}
use Rattle.std.proofs.lemmas.Bool.{eqb-true, eq-eqb, and_parts}
use Rattle.std.proofs.lemmas.Bool.Decides.{Decides-int_eq}
use Rattle.text_model.specs.Characters.{Ch, Scalar, Raw}
use Rattle.text_model.specs.Properties.{PropVal, Truth, Number, Symbol, Symbols, Text, PropSet, same_list, same_option, same_ch, same_value, same_set}

-- LISTS
pub same_list-sound : {A : Type 0} (same : A → A → Bool) → ((x y : A) → same x y ≡ true → x ≡ y) → (xs ys : List A) → same_list same xs ys ≡ true → xs ≡ ys
same_list-sound same s [] [] h = refl
same_list-sound same s [] (y ∷ ys) h = cc
same_list-sound same s (x ∷ xs) [] h = cc
same_list-sound same s (x ∷ xs) (y ∷ ys) h =
    let t : (same x y ≡ true) × (same_list same xs ys ≡ true) = and_parts _ _ h in
    let p : x ≡ y = s x y t.0 in
    let q : xs ≡ ys = same_list-sound same s xs ys t.1 in
    cc

pub same_list-same : {A : Type 0} (same : A → A → Bool) → ((x : A) → same x x ≡ true) → (xs : List A) → same_list same xs xs ≡ true
same_list-same same s [] = refl
same_list-same same s (x ∷ xs) = rw (s x) (same_list-same same s xs)

-- CHARACTERS
pub same_ch-sound : (a b : Ch) → same_ch a b ≡ true → a ≡ b
same_ch-sound (Scalar a) (Scalar b) h = ap Scalar (eqb-true a b h)
same_ch-sound (Raw a) (Raw b) h = ap Raw (eqb-true a b h)
same_ch-sound (Scalar a) (Raw b) h = cc
same_ch-sound (Raw a) (Scalar b) h = cc

pub same_ch-same : (a : Ch) → same_ch a a ≡ true
same_ch-same (Scalar a) = eq-eqb a a refl
same_ch-same (Raw a) = eq-eqb a a refl

-- VALUES
pub same_value-sound : (a b : PropVal) → same_value a b ≡ true → a ≡ b
same_value-sound Truth Truth h = refl
same_value-sound (Number a) (Number b) h = ap Number ((Decides-int_eq a b).0 h)
same_value-sound (Symbol a) (Symbol b) h = ap Symbol (eqb-true a b h)
same_value-sound (Symbols a) (Symbols b) h = ap Symbols (same_list-sound (λ x y. x == y) (λ x y k. eqb-true x y k) a b h)
same_value-sound (Text a) (Text b) h = ap Text (same_list-sound same_ch same_ch-sound a b h)
same_value-sound _ _ h = cc

pub same_value-same : (a : PropVal) → same_value a a ≡ true
same_value-same Truth = refl
same_value-same (Number a) = (Decides-int_eq a a).1 refl
same_value-same (Symbol a) = eq-eqb a a refl
same_value-same (Symbols a) = same_list-same (λ x y. x == y) (λ x. eq-eqb x x refl) a
same_value-same (Text a) = same_list-same same_ch same_ch-same a

pub same_option-sound : (a b : Option PropVal) → same_option same_value a b ≡ true → a ≡ b
same_option-sound None None h = refl
same_option-sound (Some a) (Some b) h = ap Some (same_value-sound a b h)
same_option-sound None (Some b) h = cc
same_option-sound (Some a) None h = cc

pub same_option-same : (a : Option PropVal) → same_option same_value a a ≡ true
same_option-same None = refl
same_option-same (Some a) = same_value-same a

-- SETS
abbrev AreEqual : ℕ × PropVal → ℕ × PropVal → Type 0
AreEqual p q = p ≡ q

equal_pairs : (a c : ℕ) (b d : PropVal) → a ≡ c → b ≡ d → AreEqual (a, b) (c, d)
equal_pairs a c b d e f = cc

same_pair-sound : (p q : ℕ × PropVal) → ((p.0 == q.0) && same_value p.1 q.1) ≡ true → p ≡ q
same_pair-sound p q h =
    let t : ((p.0 == q.0) ≡ true) × (same_value p.1 q.1 ≡ true) = and_parts _ _ h in
    equal_pairs p.0 q.0 p.1 q.1 (eqb-true p.0 q.0 t.0) (same_value-sound p.1 q.1 t.1)

pub same_set-sound : (a b : PropSet) → same_set a b ≡ true → a ≡ b
same_set-sound a b h = same_list-sound {A = ℕ × PropVal} (λ p q. (p.0 == q.0) && same_value p.1 q.1) same_pair-sound a b h

same_pair-same : (p : ℕ × PropVal) → ((p.0 == p.0) && same_value p.1 p.1) ≡ true
same_pair-same p = rw (eq-eqb p.0 p.0 refl) (same_value-same p.1)

pub same_set-same : (a : PropSet) → same_set a a ≡ true
same_set-same a = same_list-same {A = ℕ × PropVal} (λ p q. (p.0 == q.0) && same_value p.1 q.1) same_pair-same a
