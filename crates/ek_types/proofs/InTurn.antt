-- A loop that moves the items of a list in turn, where the items are seen through a function.
use Rattle.std.proofs.Common.{◌≡◌, ℕ, zero, suc, ◌+◌, ◌<◌, ◌≤◌, List, [], ◌∷◌, ◌++◌, map, length, reverse, get_or, All, Some, option_map, slice_get, slice_set, refl, ap, subst, sym, ◌∙◌, add-one, arith}
use Rattle.std.proofs.lemmas.List.{map-append, map-set, reverse-append}
use Rattle.std.proofs.lemmas.List.Elements.{All-append, All-cons, All-head, All-nil, All-tail}
use Rattle.std.proofs.lemmas.Option.{slice_get-map, slice_get-get_or}
use Rattle.text_model.proofs.Lists.{All-slice_get}

-- the first of them are moved
abbrev pub first_moved : {A : Type 0} → (A → A) → ℕ → List A → List A
first_moved move zero xs = xs
first_moved move (suc i) [] = []
first_moved move (suc i) (x ∷ xs) = move x ∷ first_moved move i xs

pub all_moved : {A : Type 0} (move : A → A) (i : ℕ) (xs : List A) → length xs ≤ i → first_moved move i xs ≡ map move xs
all_moved move zero [] h = refl
all_moved move zero (x ∷ xs) h = absurd (omega arith)
all_moved move (suc i) [] h = refl
all_moved move (suc i) (x ∷ xs) h = ap (λ ys. move x ∷ ys) (all_moved move i xs (omega arith))

-- the next is still where it was
next_as_it_was : {A : Type 0} (move : A → A) (i : ℕ) (xs : List A) → slice_get (first_moved move i xs) i ≡ slice_get xs i
next_as_it_was move zero xs = refl
next_as_it_was move (suc i) [] = refl
next_as_it_was move (suc i) (x ∷ xs) = next_as_it_was move i xs

one_more : {A : Type 0} (move : A → A) (i : ℕ) (xs : List A) (x : A) → slice_get xs i ≡ Some x → slice_set (first_moved move i xs) i (move x) ≡ first_moved move (suc i) xs
one_more move zero [] x h = cc
one_more move zero (y ∷ xs) x h = cc
one_more move (suc i) [] x h = refl
one_more move (suc i) (y ∷ xs) x h = ap (λ ys. move y ∷ ys) (one_more move i xs x h)

-- what is seen of the next item
next_seen : {A B : Type 0} (see : A → B) (move : B → B) (items : List A) (olds : List B) (i : ℕ) (d : A) → i < length items → map see items ≡ first_moved move i olds → slice_get olds i ≡ Some (see (get_or items i d))
next_seen see move items olds i d within same =
    sym (next_as_it_was move i olds) ∙ ap (λ xs. slice_get xs i) (sym same) ∙ slice_get-map see items i ∙ ap (option_map see) (slice_get-get_or items i d within)

-- one more item was moved
pub next_moved : {A B : Type 0} (see : A → B) (move : B → B) (items : List A) (olds : List B) (i : ℕ) (d y : A) → i < length items → see y ≡ move (see (get_or items i d)) → map see items ≡ first_moved move i olds → map see (slice_set items i y) ≡ first_moved move (i + 1) olds
next_moved see move items olds i d y within e same =
    map-set see items i y
    ∙ ap (λ xs. slice_set xs i (see y)) same
    ∙ ap (slice_set (first_moved move i olds) i) e
    ∙ one_more move i olds (see (get_or items i d)) (next_seen see move items olds i d within same)
    ∙ ap (λ j. first_moved move j olds) (sym (add-one i))

-- at the end of the loop
pub moved_at_end : {A B : Type 0} (see : A → B) (move : B → B) (items : List A) (olds : List B) (i : ℕ) → length olds ≤ i → map see items ≡ first_moved move i olds → map see items ≡ map move olds
moved_at_end see move items olds i past same = same ∙ all_moved move i olds past

-- what holds of all that was there holds of the next
pub next_holds : {A B : Type 0} (P : B → Type 0) (see : A → B) (move : B → B) (items : List A) (olds : List B) (i : ℕ) (d : A) → i < length items → All P olds → map see items ≡ first_moved move i olds → P (see (get_or items i d))
next_holds P see move items olds i d within h same =
    All-slice_get P olds i (see (get_or items i d)) h (next_seen see move items olds i d within same)

-- THE OTHER WAY ROUND
pub All-reverse : {A : Type 0} (P : A → Type 0) (xs : List A) → All P xs → All P (reverse xs)
All-reverse P [] h = h
All-reverse P (x ∷ xs) h =
    subst (All P) (sym (reverse-append (x ∷ []) xs))
    (All-append P (reverse xs) (x ∷ []) (All-reverse P xs (All-tail P x xs h)) (All-cons P x [] (All-head P x xs h) (All-nil P)))

pub map-reverse : {A B : Type 0} (f : A → B) (xs : List A) → map f (reverse xs) ≡ reverse (map f xs)
map-reverse f [] = refl
map-reverse f (x ∷ xs) =
    ap (map f) (reverse-append (x ∷ []) xs)
    ∙ map-append f (reverse xs) (x ∷ [])
    ∙ ap (λ ys. ys ++ f x ∷ []) (map-reverse f xs)
    ∙ sym (reverse-append (f x ∷ []) (map f xs))
