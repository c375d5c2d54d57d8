-- What loops over lists come to, one element after the other.
use Rattle.std.proofs.Common.{◌≡◌, ℕ, ◌+◌, ◌≤◌, List, [], ◌∷◌, ◌++◌, length, map, take, sym, ap, ◌∙◌}
use Rattle.std.specs.Prelude.{slice_get, Some}
use Rattle.std.proofs.lemmas.List.{map-append, take_all}
use Rattle.text_model.proofs.Lists.{take_one_more}

pub mapped_more : {A B : Type 0} (g : A → B) (xs : List A) (front : List B) (i : ℕ) (x : A) (y : B) → slice_get xs i ≡ Some x → y ≡ g x → front ≡ map g (take i xs) → front ++ y ∷ [] ≡ map g (take (i + 1) xs)
mapped_more g xs front i x y at e inv =
    ap (λ f. f ++ y ∷ []) inv ∙ ap (λ z. map g (take i xs) ++ z ∷ []) e ∙ sym (map-append g (take i xs) (x ∷ [])) ∙ ap (map g) (sym (take_one_more xs i x at))

pub mapped_all : {A B : Type 0} (g : A → B) (xs : List A) (front : List B) (i : ℕ) → length xs ≤ i → front ≡ map g (take i xs) → front ≡ map g xs
mapped_all g xs front i l inv = inv ∙ ap (map g) (take_all i xs l)

-- pushed through a view
pub seen_more : {T A B : Type 0} (v : T → B) (g : A → B) (xs : List A) (old new : List T) (i : ℕ) (x : A) (t : T) → new ≡ old ++ t ∷ [] → slice_get xs i ≡ Some x → v t ≡ g x → map v old ≡ map g (take i xs) → map v new ≡ map g (take (i + 1) xs)
seen_more v g xs old new i x t pushed at e inv =
    ap (map v) pushed ∙ map-append v old (t ∷ []) ∙ mapped_more g xs (map v old) i x (v t) at e inv
