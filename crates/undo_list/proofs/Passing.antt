-- Where the records of a plan stand.
use Rattle.std.proofs.Common.{◌≡◌, ℕ, zero, suc, ◌+◌, ◌-◌, ◌≤◌, ◌<◌, Bool, true, false, List, [], ◌∷◌, ◌++◌, length, take, drop, filter, refl, ap, sym, ◌∙◌, subst, arith, append_assoc, length-append}
use Rattle.std.specs.Prelude.{nat_lt}
use Rattle.std.proofs.lemmas.Bool.{lt-ltb, le-ltb}
use Rattle.std.proofs.lemmas.List.{length-drop, length-take-le, take-append-drop}
use Rattle.text_model.specs.Undo.{Entry, is_boundary, groups, oldest}
use Rattle.text_model.proofs.Cases.{if_true, if_false}
use Rattle.undo_list.specs.Records.{AreFalling}

abbrev pub older : ℕ → List Entry → List Entry
older below es = filter (λ e. nat_lt e.serial below) es

-- SERIAL NUMBERS
all_older : (bound below : ℕ) (es : List Entry) → AreFalling bound es → bound ≤ below → older below es ≡ es
all_older bound below [] f h = refl
all_older bound below (e ∷ es) f h =
    let l : e.serial < bound = f.0 in
    if_true _ (lt-ltb e.serial below (omega arith)) ∙ ap (λ l. e ∷ l) (all_older e.serial below es f.1 (omega arith))

oldest_below : (bound : ℕ) (front es : List Entry) → AreFalling bound (front ++ es) → oldest bound front ≤ bound
oldest_below bound [] es f = omega arith
oldest_below bound (e ∷ front) es f = let l : e.serial < bound = f.0 in let m = oldest_below e.serial front es f.1 in omega (arith, m)

falling_behind : (bound : ℕ) (front es : List Entry) → AreFalling bound (front ++ es) → AreFalling (oldest bound front) es
falling_behind bound [] es f = f
falling_behind bound (e ∷ front) es f = falling_behind e.serial front es f.1

older_only : (bound below : ℕ) (front es : List Entry) → AreFalling bound (front ++ es) → below ≤ oldest bound front → AreFalling below es → older below (front ++ es) ≡ es
older_only bound below [] es f h g = all_older below below es g (omega arith)
older_only bound below (e ∷ front) es f h g =
    let m = oldest_below e.serial front es f.1 in
    if_false _ (le-ltb e.serial below (omega (arith, m))) ∙ older_only e.serial below front es f.1 h g

-- what is older than the oldest of the records in front
pub behind_oldest : (bound : ℕ) (front es : List Entry) → AreFalling bound (front ++ es) → older (oldest bound front) (front ++ es) ≡ es
behind_oldest bound front es f = older_only bound (oldest bound front) front es f (omega arith) (falling_behind bound front es f)

oldest-append : (bound : ℕ) (xs ys : List Entry) → oldest bound (xs ++ ys) ≡ oldest (oldest bound xs) ys
oldest-append bound [] ys = refl
oldest-append bound (x ∷ xs) ys = oldest-append x.serial xs ys

-- GROUPS
abbrev pub rest_of : ℕ → List Entry → List Entry
rest_of n [] = []
rest_of zero (e ∷ es) = e ∷ es
rest_of (suc n) (e ∷ es) = elim (is_boundary e.what) [ true ↦ rest_of n es | false ↦ rest_of (suc n) es ]

groups_rest : (n : ℕ) (es : List Entry) → groups n es ++ rest_of n es ≡ es
groups_rest n [] = refl
groups_rest zero (e ∷ es) = refl
groups_rest (suc n) (e ∷ es) = go (is_boundary e.what) (groups_rest n es) (groups_rest (suc n) es)
  where
    go : (b : Bool) → groups n es ++ rest_of n es ≡ es → groups (suc n) es ++ rest_of (suc n) es ≡ es
        → ◌≡◌ {A = List Entry} ((elim b [ true ↦ e ∷ groups n es | false ↦ e ∷ groups (suc n) es ]) ++ (elim b [ true ↦ rest_of n es | false ↦ rest_of (suc n) es ])) (e ∷ es)
    go true one more = ap (λ l. e ∷ l) one
    go false one more = ap (λ l. e ∷ l) more

-- PLACES
take_front : {A : Type 0} (xs ys : List A) → take (length xs) (xs ++ ys) ≡ xs
take_front [] [] = refl
take_front [] (y ∷ ys) = refl
take_front (x ∷ xs) ys = ap (λ l. x ∷ l) (take_front xs ys)

drop_front : {A : Type 0} (xs ys : List A) → drop (length xs) (xs ++ ys) ≡ ys
drop_front [] [] = refl
drop_front [] (y ∷ ys) = refl
drop_front (x ∷ xs) ys = drop_front xs ys

between : {A : Type 0} (xs front middle back : List A) (from to : ℕ) → xs ≡ (front ++ middle) ++ back → from ≡ length front → to ≤ length xs → drop to xs ≡ back → (from ≤ to) × (drop from (take to xs) ≡ middle)
between xs front middle back from to whole is_from within is_back =
    let a : length xs ≡ length (front ++ middle) + length back = ap length whole ∙ length-append (front ++ middle) back in
    let b : length (front ++ middle) ≡ length front + length middle = length-append front middle in
    let d : length xs - to ≡ length back = sym (length-drop to xs) ∙ ap length is_back in
    let e : to ≡ length (front ++ middle) = omega arith in
    (omega arith, ap (λ l. drop from (take to l)) whole ∙ ap (λ k. drop from (take k ((front ++ middle) ++ back))) e ∙ ap (drop from) (take_front (front ++ middle) back) ∙ ap (λ k. drop k (front ++ middle)) is_from ∙ drop_front front middle)

-- the records of some groups of the pending ones, between the newest of them and what is older than the oldest
pub groups_between : (n bound below last from to : ℕ) (es : List Entry) → AreFalling bound es → drop from es ≡ older below es → from ≤ length es → drop to es ≡ older last es → to ≤ length es →
    ((k : ℕ) → oldest k (groups n (older below es)) ≡ last) → (from ≤ to) × (drop from (take to es) ≡ groups n (older below es))
groups_between n bound below last from to es f is_from from_within is_to to_within is_last =
    let pending = older below es in
    let front = take from es in
    let middle = groups n pending in
    let back = rest_of n pending in
    let whole : es ≡ (front ++ middle) ++ back = sym (take-append-drop from es) ∙ ap (λ l. front ++ l) (is_from ∙ sym (groups_rest n pending)) ∙ sym (append_assoc front middle back) in
    let falls : AreFalling bound ((front ++ middle) ++ back) = subst (AreFalling bound) whole f in
    let oldest_is : oldest bound (front ++ middle) ≡ last = oldest-append bound front middle ∙ is_last (oldest bound front) in
    let is_back : drop to es ≡ back = is_to ∙ ap (older last) whole ∙ ap (λ k. older k ((front ++ middle) ++ back)) (sym oldest_is) ∙ behind_oldest bound (front ++ middle) back falls in
    between es front middle back from to whole (sym (length-take-le from es from_within)) to_within is_back
