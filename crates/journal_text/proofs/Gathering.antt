-- What a text comes to, character by character.
use Rattle.std.proofs.Common.{◌≡◌, ℕ, ◌+◌, ◌≤◌, List, [], ◌∷◌, ◌++◌, length, take, flat_map, Some, slice_get, ap, sym, ◌∙◌, append-nil}
use Rattle.std.proofs.lemmas.List.{take_all}
use Rattle.std.proofs.lemmas.Grind.{flat_map-append}
use Rattle.text_model.proofs.Lists.{take_one_more}

module _ {X : Type 0} (f : X → List ℕ) (xs : List X) where
  pub one_on : (i : ℕ) (x : X) → slice_get xs i ≡ Some x → flat_map f (take i xs) ++ f x ≡ flat_map f (take (i + 1) xs)
  one_on i x h =
      ap (λ l. flat_map f (take i xs) ++ l) (sym (append-nil (f x))) ∙ sym (flat_map-append f (take i xs) (x ∷ [])) ∙ ap (flat_map f) (sym (take_one_more xs i x h))

  pub all_of : (i : ℕ) → length xs ≤ i → flat_map f (take i xs) ≡ flat_map f xs
  all_of i h = ap (flat_map f) (take_all i xs h)
