-- What a text comes to, character by character.
use Rattle.std.proofs.Common.{◌≡◌, ℕ, zero, suc, ◌+◌, ◌≤◌, List, [], ◌∷◌, ◌++◌, length, take, drop, take-add, flat_map, Some, slice_get, refl, ap, sym, ◌∙◌, append-nil, arith}
use Rattle.std.proofs.lemmas.List.{take_all}
use Rattle.std.proofs.lemmas.Grind.{flat_map-append}
use Rattle.text_model.proofs.Lists.{take_one_more}

module _ {X : Type 0} (f : X → List ℕ) (xs : List X) where
  pub one_on : (i : ℕ) (x : X) → slice_get xs i ≡ Some x → flat_map f (take i xs) ++ f x ≡ flat_map f (take (i + 1) xs)
  one_on i x h =
      ap (λ l. flat_map f (take i xs) ++ l) (sym (append-nil (f x))) ∙ sym (flat_map-append f (take i xs) (x ∷ [])) ∙ ap (flat_map f) (sym (take_one_more xs i x h))

  -- some more, from a place on
  pub some_on : (i n : ℕ) → flat_map f (take i xs) ++ flat_map f (take n (drop i xs)) ≡ flat_map f (take (i + n) xs)
  some_on i n = sym (flat_map-append f (take i xs) (take n (drop i xs))) ∙ ap (flat_map f) (sym (take-add i n xs))

  pub all_of : (i : ℕ) → length xs ≤ i → flat_map f (take i xs) ≡ flat_map f xs
  all_of i h = ap (flat_map f) (take_all i xs h)

-- the one at a place
pub one_from : {X : Type 0} (f : X → List ℕ) (xs : List X) (i : ℕ) (x : X) → slice_get xs i ≡ Some x → f x ≡ flat_map f (take 1 (drop i xs))
one_from f [] i x h = cc
one_from f (y ∷ xs) zero x h = let e : y ≡ x = cc in ap f (sym e) ∙ sym (append-nil (f y))
one_from f (y ∷ xs) (suc i) x h = one_from f xs i x h

-- none of some others, and then the one at a place
pub none_then_one : {X : Type 0} (f : X → List ℕ) (xs others : List X) (i n : ℕ) (x : X) → n ≤ 0 → slice_get xs i ≡ Some x → flat_map f (take n others) ++ f x ≡ flat_map f (take 1 (drop i xs))
none_then_one f xs others i zero x none h = one_from f xs i x h
none_then_one f xs others i (suc n) x none h = absurd (omega (arith, none))

take_within : {X : Type 0} (n m : ℕ) (xs : List X) → n ≤ m → take n (take m xs) ≡ take n xs
take_within zero m xs h = refl
take_within (suc n) zero xs h = absurd (omega (arith, h))
take_within (suc n) (suc m) [] h = refl
take_within (suc n) (suc m) (x ∷ xs) h = ap (λ l. x ∷ l) (take_within n m xs (omega (arith, h)))

-- some of the first
pub some_of : {X : Type 0} (f : X → List ℕ) (n m : ℕ) (xs : List X) → n ≤ m → flat_map f (take n (take m xs)) ≡ flat_map f (take n xs)
some_of f n m xs h = ap (flat_map f) (take_within n m xs h)
