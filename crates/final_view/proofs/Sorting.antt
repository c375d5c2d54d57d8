-- A stable sort by an order comes to what putting each element in its place comes to.
use Rattle.std.proofs.Common.{◌≡◌, ℕ, ◌<◌, ◌≤◌, suc, Bool, true, false, cond, not, ◌&&◌, List, [], ◌∷◌, filter, length, get_or, refl, sym, ap, ap₂, ◌∙◌, subst, true≢false, arith}
use Rattle.std.specs.Cmp.{IsStrictWeakOrder}
use Rattle.std.specs.List.Sorted.{IsSortedBy, IsStableBy, ties}
use Rattle.std.proofs.lemmas.List.Sorted.{sorted_far}

filter_yes : {X : Type 0} (p : X → Bool) (x : X) (xs : List X) → p x ≡ true → filter p (x ∷ xs) ≡ x ∷ filter p xs
filter_yes p x xs h = ap (λ b. cond b (x ∷ filter p xs) (filter p xs)) h

filter_no : {X : Type 0} (p : X → Bool) (x : X) (xs : List X) → p x ≡ false → filter p (x ∷ xs) ≡ filter p xs
filter_no p x xs h = ap (λ b. cond b (x ∷ filter p xs) (filter p xs)) h

rest_kept : {X : Type 0} (p : X → Bool) (x : X) (xs ys : List X) → filter p (x ∷ xs) ≡ filter p (x ∷ ys) → filter p xs ≡ filter p ys
rest_kept p x xs ys h = go (p x) h
  where
    go : (b : Bool) → cond b (x ∷ filter p xs) (filter p xs) ≡ cond b (x ∷ filter p ys) (filter p ys) → filter p xs ≡ filter p ys
    go true e = let k = e in cc
    go false e = e

module _ {X : Type 0} (lt : X → X → Bool) (o : IsStrictWeakOrder lt) where
  -- none of a list is less than one; none of a list is less than one before it
  abbrev Above : X → List X → Type 0
  Above x [] = Unit {0}
  Above x (y ∷ ys) = (lt y x ≡ false) × Above x ys

  abbrev Up : List X → Type 0
  Up [] = Unit {0}
  Up (x ∷ xs) = Above x xs × Up xs

  above_of : (x : X) (xs : List X) → ((k : ℕ) → k < length xs → lt (get_or xs k x) x ≡ false) → Above x xs
  above_of x [] h = tt
  above_of x (y ∷ ys) h = (h 0 (omega arith), above_of x ys (λ k p. h (suc k) (omega arith)))

  up_of : (xs : List X) → ((i j : ℕ) (d : X) → i ≤ j → j < length xs → lt (get_or xs j d) (get_or xs i d) ≡ false) → Up xs
  up_of [] h = tt
  up_of (x ∷ xs) h = (above_of x xs (λ k p. h 0 (suc k) x (omega arith) (omega arith)), up_of xs (λ i j d p q. h (suc i) (suc j) d (omega arith) (omega arith)))

  -- TIES
  itself : (x : X) → lt x x ≡ false
  itself x = go (lt x x) refl
    where
      go : (b : Bool) → lt x x ≡ b → lt x x ≡ false
      go true h = o.one_way x x h
      go false h = h

  tie_self : (x : X) → ties lt x x ≡ true
  tie_self x = ap (λ b. not b && not b) (itself x)

  tie_of : (x y : X) → lt x y ≡ false → lt y x ≡ false → ties lt x y ≡ true
  tie_of x y p q = ap (λ b. not b && not (lt y x)) p ∙ ap (λ b. not b) q

  no_less : (b c : Bool) → not b && not c ≡ true → (b ≡ false) × (c ≡ false)
  no_less true c h = absurd (true≢false (sym h))
  no_less false true h = absurd (true≢false (sym h))
  no_less false false h = (refl, refl)

  tied : (x y : X) → ties lt x y ≡ true → (lt x y ≡ false) × (lt y x ≡ false)
  tied x y h = no_less (lt x y) (lt y x) h

  tie_swap : (x y : X) (b : Bool) → ties lt x y ≡ b → ties lt y x ≡ b
  tie_swap x y b h = go (lt y x) (lt x y) ∙ h
    where
      go : (b c : Bool) → not b && not c ≡ not c && not b
      go true true = refl
      go true false = refl
      go false true = refl
      go false false = refl

  -- TWO SORTED LISTS
  found_by : (x y z : X) (zs r : List X) → Above y (z ∷ zs) → filter (ties lt x) (z ∷ zs) ≡ x ∷ r → (filter (ties lt x) zs ≡ x ∷ r → lt x y ≡ false) → (b : Bool) → ties lt x z ≡ b → lt x y ≡ false
  found_by x y z zs r h e rest true k =
      let whole = sym (filter_yes (ties lt x) z zs k) ∙ e in
      let same : z ≡ x = cc in
      subst (λ w. lt w y ≡ false) same h.0
  found_by x y z zs r h e rest false k = rest (sym (filter_no (ties lt x) z zs k) ∙ e)

  found : (x y : X) (zs r : List X) → Above y zs → filter (ties lt x) zs ≡ x ∷ r → lt x y ≡ false
  found x y [] r h e = absurd (let k = e in cc)
  found x y (z ∷ zs) r h e = found_by x y z zs r h e (λ k. found x y zs r h.1 k) (ties lt x z) refl

  module _ (x y : X) (xs ys : List X) (u : Up (x ∷ xs)) (v : Up (y ∷ ys)) (h : (z : X) → filter (ties lt z) (x ∷ xs) ≡ filter (ties lt z) (y ∷ ys)) where
    left : filter (ties lt x) (y ∷ ys) ≡ x ∷ filter (ties lt x) xs
    left = sym (h x) ∙ filter_yes (ties lt x) x xs (tie_self x)

    right : filter (ties lt y) (x ∷ xs) ≡ y ∷ filter (ties lt y) ys
    right = h y ∙ filter_yes (ties lt y) y ys (tie_self y)

    heads_by : (b : Bool) → ties lt x y ≡ b → x ≡ y
    heads_by true k =
        let both = sym (filter_yes (ties lt x) y ys k) ∙ left in
        let same : y ≡ x = cc in
        sym same
    heads_by false k =
        let p : lt x y ≡ false = found x y ys _ v.0 (sym (filter_no (ties lt x) y ys k) ∙ left) in
        let q : lt y x ≡ false = found y x xs _ u.0 (sym (filter_no (ties lt y) x xs (tie_swap x y false k)) ∙ right) in
        absurd (true≢false (sym (tie_of x y p q) ∙ k))

    heads : x ≡ y
    heads = heads_by (ties lt x y) refl

    tails : (z : X) → filter (ties lt z) xs ≡ filter (ties lt z) ys
    tails z = rest_kept (ties lt z) x xs ys (h z ∙ ap (λ w. filter (ties lt z) (w ∷ ys)) (sym heads))

  same_sorted : (xs ys : List X) → Up xs → Up ys → ((z : X) → filter (ties lt z) xs ≡ filter (ties lt z) ys) → xs ≡ ys
  same_sorted [] [] u v h = refl
  same_sorted [] (y ∷ ys) u v h = absurd (let k = h y ∙ filter_yes (ties lt y) y ys (tie_self y) in cc)
  same_sorted (x ∷ xs) [] u v h = absurd (let k = sym (filter_yes (ties lt x) x xs (tie_self x)) ∙ h x in cc)
  same_sorted (x ∷ xs) (y ∷ ys) u v h = ap₂ (λ a l. a ∷ l) (heads x y xs ys u v h) (same_sorted xs ys u.1 v.1 (tails x y xs ys u v h))

  -- EACH PUT IN ITS PLACE
  abbrev pub put : X → List X → List X
  put x [] = x ∷ []
  put x (y ∷ ys) = cond (not (lt y x)) (x ∷ y ∷ ys) (y ∷ put x ys)

  abbrev pub sorted : List X → List X
  sorted [] = []
  sorted (x ∷ xs) = put x (sorted xs)

  module _ (z x y : X) (ys : List X) where
    -- two that tie with one aren't less than one another
    both_tie : ties lt z x ≡ true → ties lt z y ≡ true → lt y x ≡ false
    both_tie p q = o.chain y z x (tied z y q).1 (tied z x p).0

    swapped : (s t : Bool) → ties lt z x ≡ s → ties lt z y ≡ t → lt y x ≡ true → (rest : List X)
        → cond t (y ∷ cond s (x ∷ rest) rest) (cond s (x ∷ rest) rest) ≡ cond s (x ∷ cond t (y ∷ rest) rest) (cond t (y ∷ rest) rest)
    swapped true true p q k rest = absurd (true≢false (sym k ∙ both_tie p q))
    swapped true false p q k rest = refl
    swapped false true p q k rest = refl
    swapped false false p q k rest = refl

    put_by : (b : Bool) → lt y x ≡ b → filter (ties lt z) (put x ys) ≡ filter (ties lt z) (x ∷ ys)
        → filter (ties lt z) (cond (not b) (x ∷ y ∷ ys) (y ∷ put x ys)) ≡ filter (ties lt z) (x ∷ y ∷ ys)
    put_by false k e = refl
    put_by true k e = ap (λ l. cond (ties lt z y) (y ∷ l) l) e ∙ swapped (ties lt z x) (ties lt z y) refl refl k (filter (ties lt z) ys)

  put_ties : (z x : X) (ys : List X) → filter (ties lt z) (put x ys) ≡ filter (ties lt z) (x ∷ ys)
  put_ties z x [] = refl
  put_ties z x (y ∷ ys) = put_by z x y ys (lt y x) refl (put_ties z x ys)

  sorted_ties : (z : X) (xs : List X) → filter (ties lt z) (sorted xs) ≡ filter (ties lt z) xs
  sorted_ties z [] = refl
  sorted_ties z (x ∷ xs) = put_ties z x (sorted xs) ∙ ap (λ l. cond (ties lt z x) (x ∷ l) l) (sorted_ties z xs)

  above_by : (y x z : X) (zs : List X) → Above y (z ∷ zs) → lt x y ≡ false → Above y (put x zs) → (b : Bool) → Above y (cond (not b) (x ∷ z ∷ zs) (z ∷ put x zs))
  above_by y x z zs h p e true = (h.0, e)
  above_by y x z zs h p e false = (p, h)

  put_above : (y x : X) (ys : List X) → lt x y ≡ false → Above y ys → Above y (put x ys)
  put_above y x [] p h = (p, tt)
  put_above y x (z ∷ zs) p h = above_by y x z zs h p (put_above y x zs p h.1) (lt z x)

  above_all : (x y : X) (ys : List X) → lt y x ≡ false → Above y ys → Above x ys
  above_all x y [] p h = tt
  above_all x y (z ∷ zs) p h = (o.chain z y x h.0 p, above_all x y zs p h.1)

  up_by : (x y : X) (ys : List X) → Up (y ∷ ys) → Up (put x ys) → (b : Bool) → lt y x ≡ b → Up (cond (not b) (x ∷ y ∷ ys) (y ∷ put x ys))
  up_by x y ys u e true k = (put_above y x ys (o.one_way y x k) u.0, e)
  up_by x y ys u e false k = ((k, above_all x y ys k u.0), u)

  put_up : (x : X) (ys : List X) → Up ys → Up (put x ys)
  put_up x [] u = (tt, tt)
  put_up x (y ∷ ys) u = up_by x y ys u (put_up x ys u.1) (lt y x) refl

  sorted_up : (xs : List X) → Up (sorted xs)
  sorted_up [] = tt
  sorted_up (x ∷ xs) = put_up x (sorted xs) (sorted_up xs)

  pub sorted_by_any : (xs ys : List X) → IsSortedBy lt ys → IsStableBy lt xs ys → ys ≡ sorted xs
  sorted_by_any xs ys up stable = same_sorted ys (sorted xs) (up_of ys (sorted_far lt o ys up)) (sorted_up xs) (λ z. stable z ∙ sym (sorted_ties z xs))
