-- Names and the numbers at which they stand.
use Rattle.std.proofs.Common.{◌≡◌, ◌⊎◌, inl, inr, refl, sym, ap, ap₂, ◌∙◌, cond, ℕ, zero, suc, ◌+◌, Bool, true, false, List, [], ◌∷◌, ◌++◌, map, length, Option, Some, None, arith, bytes_eq, true≢false, position}
use Rattle.std.specs.List.{list_any, slice_get, position_from, AllZip}
use Rattle.std.proofs.lemmas.Iterator.Adapters.{position_from-zero}
use Rattle.std.proofs.lemmas.Bool.Decides.{Decides-eqb}
use Rattle.std.proofs.lemmas.Slice.Eq.{bytes_eq-Decides}
use Rattle.std.proofs.lemmas.List.{length-map}
use Rattle.text_model.specs.Names.{same_word, number_from, with_name}
use Rattle.text_model.proofs.Cases.{same_tests}
use Rattle.indexmap.specs.IndexSet.{insert_key}
use Rattle.ek_types.specs.Names.{number_in, AreNumbered}

-- SAME WORDS
pub same_word-true : (a b : List ℕ) → same_word a b ≡ true → a ≡ b
same_word-true [] [] e = refl
same_word-true [] (y ∷ b) e = absurd (true≢false (sym e))
same_word-true (x ∷ a) [] e = absurd (true≢false (sym e))
same_word-true (x ∷ a) (y ∷ b) e = grind (arith, Decides-eqb x y, same_word-true a b)

pub same_word-itself : (a : List ℕ) → same_word a a ≡ true
same_word-itself [] = refl
same_word-itself (x ∷ a) = grind (arith, Decides-eqb x x, same_word-itself a)

pub same_word-bytes_eq : (a b : List ℕ) → same_word a b ≡ bytes_eq b a
same_word-bytes_eq a b =
    same_tests _ _
    (λ e. (bytes_eq-Decides b a).1 (sym (same_word-true a b e)))
    (λ e. rw ((bytes_eq-Decides b a).0 e) (same_word-itself a))

-- NUMBERS
number_from-here : (n : ℕ) (s : List ℕ) (symbols : List (List ℕ)) (name : List ℕ) → same_word s name ≡ true → number_from n (s ∷ symbols) name ≡ Some n
number_from-here n s symbols name e = ap (λ (b : Bool). let k : Option ℕ = elim b [ true ↦ Some n | false ↦ number_from (n + 1) symbols name ] in k) e

number_from-on : (n : ℕ) (s : List ℕ) (symbols : List (List ℕ)) (name : List ℕ) → same_word s name ≡ false → number_from n (s ∷ symbols) name ≡ number_from (n + 1) symbols name
number_from-on n s symbols name e = ap (λ (b : Bool). let k : Option ℕ = elim b [ true ↦ Some n | false ↦ number_from (n + 1) symbols name ] in k) e

chosen : {A : Type 0} (b : Bool) (x y : A) → (let r : A = elim b [ true ↦ x | false ↦ y ] in r) ≡ cond b x y
chosen true x y = refl
chosen false x y = refl

number_from-position : {K : Type 0} (f : K → List ℕ) (name : List ℕ) (n : ℕ) (keys : List K) → number_from n (map f keys) name ≡ position_from (λ j. bytes_eq name (f j)) n keys
number_from-position f name n [] = refl
number_from-position f name n (k ∷ keys) =
    ap (λ (b : Bool). let k : Option ℕ = elim b [ true ↦ Some n | false ↦ number_from (n + 1) (map f keys) name ] in k) (same_word-bytes_eq (f k) name) ∙
    (ap (λ (later : Option ℕ). let r : Option ℕ = elim (bytes_eq name (f k)) [ true ↦ Some n | false ↦ later ] in r) (number_from-position f name (n + 1) keys) ∙
    chosen (bytes_eq name (f k)) (Some n) (position_from (λ j. bytes_eq name (f j)) (n + 1) keys))

-- the number of a name is the index at which a search of the keys finds it
pub number_in-keys : {K : Type 0} (f : K → List ℕ) (name : List ℕ) (keys : List K) → number_in (map f keys) name ≡ position (λ j. bytes_eq name (f j)) keys
number_in-keys f name keys = number_from-position f name 0 keys ∙ sym (position_from-zero (λ j. bytes_eq name (f j)) keys)

-- a name that is found stands where it was found
stands_from : (n : ℕ) (symbols : List (List ℕ)) (name : List ℕ) (i : ℕ) → number_from n symbols name ≡ Some i → (j : ℕ) × (i ≡ n + j) × (slice_get symbols j ≡ Some name)
stands_from n [] name i e = absurd (cc)
stands_from n (s ∷ symbols) name i e = by (stands_from (n + 1) symbols name i) (same_word s name) refl
  where
    by : (number_from (n + 1) symbols name ≡ Some i → (j : ℕ) × (i ≡ (n + 1) + j) × (slice_get symbols j ≡ Some name)) → (b : Bool) → same_word s name ≡ b → (j : ℕ) × (i ≡ n + j) × (slice_get (s ∷ symbols) j ≡ Some name)
    by rest true t =
        let here : Some n ≡ Some i = sym (number_from-here n s symbols name t) ∙ e in
        (0, grind (arith, here), ap Some (same_word-true s name t))
    by rest false t =
        let later : (j : ℕ) × (i ≡ (n + 1) + j) × (slice_get symbols j ≡ Some name) = rest (sym (number_from-on n s symbols name t) ∙ e) in
        (suc (later.0), grind (arith, later.1), later.2)

pub stands : (symbols : List (List ℕ)) (name : List ℕ) (i : ℕ) → number_in symbols name ≡ Some i → slice_get symbols i ≡ Some name
stands symbols name i e =
    let found : (j : ℕ) × (i ≡ 0 + j) × (slice_get symbols j ≡ Some name) = stands_from 0 symbols name i e in
    let same : i ≡ found.0 = omega arith in
    rw same (found.2)

-- A NAME MORE
any_found : (n : ℕ) (symbols : List (List ℕ)) (name : List ℕ) (i : ℕ) → number_from n symbols name ≡ Some i → list_any (λ s. same_word s name) symbols ≡ true
any_found n [] name i e = absurd (cc)
any_found n (s ∷ symbols) name i e = by (any_found (n + 1) symbols name i) (same_word s name) refl
  where
    by : (number_from (n + 1) symbols name ≡ Some i → list_any (λ t. same_word t name) symbols ≡ true) → (b : Bool) → same_word s name ≡ b → list_any (λ t. same_word t name) (s ∷ symbols) ≡ true
    by rest true t = rw t refl
    by rest false t = rw t (rest (sym (number_from-on n s symbols name t) ∙ e))

none_found : (n : ℕ) (symbols : List (List ℕ)) (name : List ℕ) → number_from n symbols name ≡ None → list_any (λ s. same_word s name) symbols ≡ false
none_found n [] name e = refl
none_found n (s ∷ symbols) name e = by (none_found (n + 1) symbols name) (same_word s name) refl
  where
    by : (number_from (n + 1) symbols name ≡ None → list_any (λ t. same_word t name) symbols ≡ false) → (b : Bool) → same_word s name ≡ b → list_any (λ t. same_word t name) (s ∷ symbols) ≡ false
    by rest true t = absurd (let here : Some n ≡ None = sym (number_from-here n s symbols name t) ∙ e in cc)
    by rest false t = rw t (rest (sym (number_from-on n s symbols name t) ∙ e))

pub with_name-had : (symbols : List (List ℕ)) (name : List ℕ) (i : ℕ) → number_in symbols name ≡ Some i → with_name symbols name ≡ symbols
with_name-had symbols name i e = ap (λ (b : Bool). let k : List (List ℕ) = elim b [ true ↦ symbols | false ↦ symbols ++ name ∷ [] ] in k) (any_found 0 symbols name i e)

pub with_name-new : (symbols : List (List ℕ)) (name : List ℕ) → number_in symbols name ≡ None → with_name symbols name ≡ symbols ++ name ∷ []
with_name-new symbols name e = ap (λ (b : Bool). let k : List (List ℕ) = elim b [ true ↦ symbols | false ↦ symbols ++ name ∷ [] ] in k) (none_found 0 symbols name e)

-- a name that is found is found with more names behind, and one that isn't stands behind them all
found_before : (n : ℕ) (symbols more : List (List ℕ)) (name : List ℕ) (i : ℕ) → number_from n symbols name ≡ Some i → number_from n (symbols ++ more) name ≡ Some i
found_before n [] more name i e = absurd (cc)
found_before n (s ∷ symbols) more name i e = by (found_before (n + 1) symbols more name i) (same_word s name) refl
  where
    by : (number_from (n + 1) symbols name ≡ Some i → number_from (n + 1) (symbols ++ more) name ≡ Some i) → (b : Bool) → same_word s name ≡ b → number_from n ((s ∷ symbols) ++ more) name ≡ Some i
    by rest true t = number_from-here n s (symbols ++ more) name t ∙ (sym (number_from-here n s symbols name t) ∙ e)
    by rest false t = number_from-on n s (symbols ++ more) name t ∙ rest (sym (number_from-on n s symbols name t) ∙ e)

found_last : (n : ℕ) (symbols : List (List ℕ)) (name : List ℕ) → number_from n symbols name ≡ None → number_from n (symbols ++ name ∷ []) name ≡ Some (n + length symbols)
found_last n [] name e = number_from-here n name [] name (same_word-itself name) ∙ ap Some (omega arith)
found_last n (s ∷ symbols) name e = by (found_last (n + 1) symbols name) (same_word s name) refl
  where
    by : (number_from (n + 1) symbols name ≡ None → number_from (n + 1) (symbols ++ name ∷ []) name ≡ Some ((n + 1) + length symbols)) → (b : Bool) → same_word s name ≡ b → number_from n ((s ∷ symbols) ++ name ∷ []) name ≡ Some (n + length (s ∷ symbols))
    by rest true t = absurd (let here : Some n ≡ None = sym (number_from-here n s symbols name t) ∙ e in cc)
    by rest false t =
        number_from-on n s (symbols ++ name ∷ []) name t ∙
        (rest (sym (number_from-on n s symbols name t) ∙ e) ∙ ap Some (omega arith))

pub number_in-new : (symbols : List (List ℕ)) (name : List ℕ) → number_in symbols name ≡ None → number_in (symbols ++ name ∷ []) name ≡ Some (length symbols)
number_in-new symbols name e = found_last 0 symbols name e ∙ ap Some (omega arith)

-- what stands in a list with one more behind it stands in the list, or is the one more
one_more : {A : Type 0} (xs : List A) (x y : A) (i : ℕ) → slice_get (xs ++ x ∷ []) i ≡ Some y → (slice_get xs i ≡ Some y) ⊎ ((i ≡ length xs) × (x ≡ y))
one_more [] x y zero e = inr (refl, grind (arith, e))
one_more [] x y (suc i) e = absurd (cc)
one_more (w ∷ xs) x y zero e = inl e
one_more (w ∷ xs) x y (suc i) e = elim (one_more xs x y i e) [ inl h ↦ inl h | inr h ↦ inr (grind (arith, h.0), h.1) ]

pub AreNumbered-more : (symbols : List (List ℕ)) (name : List ℕ) → AreNumbered symbols → number_in symbols name ≡ None → AreNumbered (symbols ++ name ∷ [])
AreNumbered-more symbols name numbered e n x h =
    elim (one_more symbols name x n h) [
      | inl old ↦ found_before 0 symbols (name ∷ []) x n (numbered n x old)
      | inr last ↦ rw (last.0, ← last.1) (number_in-new symbols name e)
    ]

-- THE KEYS
no_key : {K : Type 0} (f : K → List ℕ) (name : List ℕ) (n : ℕ) (keys : List K) → number_from n (map f keys) name ≡ None → list_any (λ j. bytes_eq name (f j)) keys ≡ false
no_key f name n [] e = refl
no_key f name n (k ∷ keys) e = by (no_key f name (n + 1) keys) (same_word (f k) name) refl
  where
    by : (number_from (n + 1) (map f keys) name ≡ None → list_any (λ j. bytes_eq name (f j)) keys ≡ false) → (b : Bool) → same_word (f k) name ≡ b → list_any (λ j. bytes_eq name (f j)) (k ∷ keys) ≡ false
    by rest true t = absurd (let here : Some n ≡ None = sym (number_from-here n (f k) (map f keys) name t) ∙ e in cc)
    by rest false t = rw (sym (same_word-bytes_eq (f k) name) ∙ t) (rest (sym (number_from-on n (f k) (map f keys) name t) ∙ e))

-- a key whose name has no number goes behind the others
pub insert_key-new : {K : Type 0} (f : K → List ℕ) (keys : List K) (key : K) → number_in (map f keys) (f key) ≡ None → insert_key (λ a b. bytes_eq (f a) (f b)) keys key ≡ keys ++ key ∷ []
insert_key-new f keys key e = rw (no_key f (f key) 0 keys e) refl

-- keys that are alike one by one have the same names
pub map_alike : {K : Type 0} (f : K → List ℕ) (keys copies : List K) → AllZip (λ x y. f y ≡ f x) keys copies → map f copies ≡ map f keys
map_alike f [] [] z = refl
map_alike f [] (y ∷ copies) z = absurd z
map_alike f (x ∷ keys) [] z = absurd z
map_alike f (x ∷ keys) (y ∷ copies) z = ap₂ ◌∷◌ z.0 (map_alike f keys copies z.1)

pub length_alike : {K : Type 0} (f : K → List ℕ) (keys copies : List K) → map f copies ≡ map f keys → length copies ≡ length keys
length_alike f keys copies e = let lengths : length (map f copies) ≡ length (map f keys) = ap length e in simp (length-map) at lengths
