-- Lists of words, compared one by one.
use Rattle.std.proofs.Common.{◌≡◌, ℕ, ◌+◌, ◌≤◌, Bool, true, false, List, [], ◌∷◌, length, drop, slice_get, refl, ap, sym, ◌∙◌, arith}
use Rattle.std.specs.Prelude.{Some, ◌&&◌}
use Rattle.std.proofs.lemmas.List.{drop_all}
use Rattle.text_model.specs.Properties.{same_list}
use Rattle.text_model.proofs.Lists.{drop_at}
use Rattle.plain_machine.specs.Run.{same_bytes}

abbrev same_words : List (List ℕ) → List (List ℕ) → Bool
same_words xs ys = same_list same_bytes xs ys

pub other_lengths : (xs ys : List (List ℕ)) → (length xs ≡ length ys → ⊥) → false ≡ same_words xs ys
other_lengths [] [] h = absurd (h refl)
other_lengths [] (y ∷ ys) h = refl
other_lengths (x ∷ xs) [] h = refl
other_lengths (x ∷ xs) (y ∷ ys) h = go (same_bytes x y) (other_lengths xs ys (λ e. h (omega (arith, e))))
  where
    go : (b : Bool) → false ≡ same_words xs ys → false ≡ (b && same_words xs ys)
    go true e = e
    go false e = refl

module _ (xs ys : List (List ℕ)) (i : ℕ) (x y : List ℕ) (so_far : same_words xs ys ≡ same_words (drop i xs) (drop i ys)) (at_x : slice_get xs i ≡ Some x) (at_y : slice_get ys i ≡ Some y) where
  here : same_words xs ys ≡ (same_bytes x y && same_words (drop (i + 1) xs) (drop (i + 1) ys))
  here = so_far ∙ ap (λ l. same_words l (drop i ys)) (drop_at xs i x at_x) ∙ ap (same_words (x ∷ drop (i + 1) xs)) (drop_at ys i y at_y)

  pub word_differs : false ≡ same_bytes x y → false ≡ same_words xs ys
  word_differs h = sym (here ∙ ap (λ b. b && same_words (drop (i + 1) xs) (drop (i + 1) ys)) (sym h))

  pub word_agrees : true ≡ same_bytes x y → same_words xs ys ≡ same_words (drop (i + 1) xs) (drop (i + 1) ys)
  word_agrees h = here ∙ ap (λ b. b && same_words (drop (i + 1) xs) (drop (i + 1) ys)) (sym h)

pub words_end : (xs ys : List (List ℕ)) (i : ℕ) → same_words xs ys ≡ same_words (drop i xs) (drop i ys) → length xs ≤ i → length ys ≤ i → true ≡ same_words xs ys
words_end xs ys i so_far a b = sym (so_far ∙ ap (λ l. same_words l (drop i ys)) (drop_all i xs a) ∙ ap (same_words []) (drop_all i ys b))
