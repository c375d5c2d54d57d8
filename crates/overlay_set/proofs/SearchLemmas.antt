-- Searches through a list of entries, part by part.
use Rattle.std.proofs.Common.{◌≡◌, ℕ, Bool, min, max, List, [], ◌∷◌, ◌++◌, filter, All, Option, Some, append_assoc, refl, ap, sym, ◌∙◌, arith}
use Rattle.std.specs.List.{flat_map, fold}
use Rattle.std.proofs.lemmas.List.Sums.{fold-append}
use Rattle.std.proofs.lemmas.List.{map-append}
use Rattle.std.proofs.lemmas.List.Elements.{filter-append, All-head, All-tail}
use Rattle.text_model.specs.Marks.{Overlay}
use Rattle.text_model.specs.OverlayQuestions.{least, greatest}
use Rattle.overlay_set.specs.Entries.{numbers_in, passes}
use Rattle.overlay_set.specs.Winner.{stronger, has_property, contenders, strongest}
use Rattle.overlay_set.specs.declared.slot.Question.TheVariants.{At}
use Rattle.overlay_set.specs.declared.bounds.Entry.{Entry}

-- STARTS AND ENDS
pub least-append : (xs : List ℕ) (n : ℕ) (ys : List ℕ) → least n (xs ++ ys) ≡ least (least n xs) ys
least-append [] n ys = refl
least-append (x ∷ xs) n ys = least-append xs (min n x) ys

pub greatest-append : (xs : List ℕ) (n : ℕ) (ys : List ℕ) → greatest n (xs ++ ys) ≡ greatest (greatest n xs) ys
greatest-append [] n ys = refl
greatest-append (x ∷ xs) n ys = greatest-append xs (max n x) ys

max-swap : (n m x : ℕ) → max (max n m) x ≡ max (max n x) m
max-swap n m x = omega arith

greatest-max : (xs : List ℕ) (n m : ℕ) → greatest (max n m) xs ≡ max (greatest n xs) m
greatest-max [] n m = refl
greatest-max (x ∷ xs) n m = ap (λ k. greatest k xs) (max-swap n m x) ∙ greatest-max xs (max n x) m

pub greatest-swap : (xs : List ℕ) (n : ℕ) (ys : List ℕ) → greatest (greatest n xs) ys ≡ greatest (greatest n ys) xs
greatest-swap [] n ys = refl
greatest-swap (x ∷ xs) n ys = greatest-swap xs (max n x) ys ∙ ap (λ k. greatest k xs) (greatest-max ys n x)

split_ends : (q : ℕ → Bool) (f : Entry → List ℕ) (x : Entry) (xs : List Entry) → filter q (flat_map f (x ∷ xs)) ≡ filter q (f x) ++ filter q (flat_map f xs)
split_ends q f x xs = filter-append q (f x) (flat_map f xs)

pub least_stays : (n : ℕ) (q : ℕ → Bool) (f : Entry → List ℕ) (xs : List Entry) → All (λ e. least n (filter q (f e)) ≡ n) xs → least n (filter q (flat_map f xs)) ≡ n
least_stays n q f [] h = refl
least_stays n q f (x ∷ xs) h =
    let first : least n (filter q (f x)) ≡ n = All-head (λ e. least n (filter q (f e)) ≡ n) x xs h in
    ap (least n) (split_ends q f x xs) ∙ least-append (filter q (f x)) n (filter q (flat_map f xs)) ∙ ap (λ k. least k (filter q (flat_map f xs))) first
    ∙ least_stays n q f xs (All-tail (λ e. least n (filter q (f e)) ≡ n) x xs h)

pub greatest_stays : (n : ℕ) (q : ℕ → Bool) (f : Entry → List ℕ) (xs : List Entry) → All (λ e. greatest n (filter q (f e)) ≡ n) xs → greatest n (filter q (flat_map f xs)) ≡ n
greatest_stays n q f [] h = refl
greatest_stays n q f (x ∷ xs) h =
    let first : greatest n (filter q (f x)) ≡ n = All-head (λ e. greatest n (filter q (f e)) ≡ n) x xs h in
    ap (greatest n) (split_ends q f x xs) ∙ greatest-append (filter q (f x)) n (filter q (flat_map f xs)) ∙ ap (λ k. greatest k (filter q (flat_map f xs))) first
    ∙ greatest_stays n q f xs (All-tail (λ e. greatest n (filter q (f e)) ≡ n) x xs h)

split_three : (q : ℕ → Bool) (f : Entry → List ℕ) (xs : List Entry) (e : Entry) (ys : List Entry) → filter q (flat_map f (xs ++ e ∷ ys)) ≡ filter q (flat_map f xs) ++ (filter q (f e) ++ filter q (flat_map f ys))
split_three q f [] e ys = split_ends q f e ys
split_three q f (x ∷ xs) e ys =
    let rest = split_three q f xs e ys in
    let all : filter q (f x) ++ filter q (flat_map f (xs ++ e ∷ ys)) ≡ (filter q (f x) ++ filter q (flat_map f xs)) ++ (filter q (f e) ++ filter q (flat_map f ys)) = rw rest (sym (append_assoc (filter q (f x)) (filter q (flat_map f xs)) (filter q (f e) ++ filter q (flat_map f ys)))) in
    split_ends q f x (xs ++ e ∷ ys) ∙ all ∙ ap (λ zs. zs ++ (filter q (f e) ++ filter q (flat_map f ys))) (sym (split_ends q f x xs))

-- the nearest of three parts, one after the other
pub least_three : (q : ℕ → Bool) (f : Entry → List ℕ) (n a b c : ℕ) (xs : List Entry) (e : Entry) (ys : List Entry) → a ≡ least n (filter q (flat_map f xs)) → b ≡ least a (filter q (f e)) → c ≡ least b (filter q (flat_map f ys)) →
    c ≡ least n (filter q (flat_map f (xs ++ e ∷ ys)))
least_three q f n a b c xs e ys h k l =
    let front = filter q (flat_map f xs) in
    let own = filter q (f e) in
    let back = filter q (flat_map f ys) in
    l ∙ ap (λ m. least m back) (k ∙ ap (λ m. least m own) h) ∙ sym (least-append own (least n front) back) ∙ sym (least-append front n (own ++ back)) ∙ ap (least n) (sym (split_three q f xs e ys))

pub greatest_three : (q : ℕ → Bool) (f : Entry → List ℕ) (n a b c : ℕ) (xs : List Entry) (e : Entry) (ys : List Entry) → a ≡ greatest n (filter q (flat_map f ys)) → b ≡ greatest a (filter q (f e)) → c ≡ greatest b (filter q (flat_map f xs)) →
    c ≡ greatest n (filter q (flat_map f (xs ++ e ∷ ys)))
greatest_three q f n a b c xs e ys h k l =
    let front = filter q (flat_map f xs) in
    let own = filter q (f e) in
    let back = filter q (flat_map f ys) in
    l ∙ ap (λ m. greatest m front) (k ∙ ap (λ m. greatest m own) h) ∙ greatest-swap own (greatest n back) front ∙ ap (λ m. greatest m own) (greatest-swap back n front) ∙ greatest-swap back (greatest n front) own
    ∙ sym (greatest-append own (greatest n front) back) ∙ sym (greatest-append front n (own ++ back)) ∙ ap (greatest n) (sym (split_three q f xs e ys))

-- WHAT IS FOUND
numbers_found : (p : Entry → Bool) (xs ys : List Entry) → numbers_in (filter p (xs ++ ys)) ≡ numbers_in (filter p xs) ++ numbers_in (filter p ys)
numbers_found p xs ys = ap numbers_in (filter-append p xs ys) ∙ map-append (λ (e : Entry). e.number) (filter p xs) (filter p ys)

-- the numbers found in three parts, one after the other
pub found_three : (p : Entry → Bool) (n a b c : List ℕ) (xs : List Entry) (e : Entry) (ys : List Entry) → a ≡ n ++ numbers_in (filter p xs) → b ≡ a ++ numbers_in (filter p (e ∷ [])) → c ≡ b ++ numbers_in (filter p ys) →
    c ≡ n ++ numbers_in (filter p (xs ++ e ∷ ys))
found_three p n a b c xs e ys h k l =
    let front = numbers_in (filter p xs) in
    let own = numbers_in (filter p (e ∷ [])) in
    let back = numbers_in (filter p ys) in
    l ∙ ap (λ m. m ++ back) (k ∙ ap (λ m. m ++ own) h)
    ∙ append_assoc (n ++ front) own back
    ∙ append_assoc n front (own ++ back)
    ∙ ap (λ m. n ++ (front ++ m)) (sym (numbers_found p (e ∷ []) ys))
    ∙ ap (λ m. n ++ m) (sym (numbers_found p xs (e ∷ ys)))

-- THE WINNER
contenders-append : (b i name : ℕ) (os : List Overlay) (xs ys : List Entry) → contenders b i name os (xs ++ ys) ≡ contenders b i name os xs ++ contenders b i name os ys
contenders-append b i name os xs ys =
    ap (filter (has_property name os)) (filter-append (passes b (At i)) xs ys)
    ∙ filter-append (has_property name os) (filter (passes b (At i)) xs) (filter (passes b (At i)) ys)

strongest-append : (b i name : ℕ) (os : List Overlay) (best : Option Entry) (xs ys : List Entry) → strongest b i name os best (xs ++ ys) ≡ strongest b i name os (strongest b i name os best xs) ys
strongest-append b i name os best xs ys =
    ap (fold (λ m e. Some (stronger os m e)) best) (contenders-append b i name os xs ys)
    ∙ fold-append (λ m e. Some (stronger os m e)) best (contenders b i name os xs) (contenders b i name os ys)

-- the strongest of three parts, one after the other
pub strongest_three : (b i name : ℕ) (os : List Overlay) (n x y z : Option Entry) (xs : List Entry) (e : Entry) (ys : List Entry) → x ≡ strongest b i name os n xs → y ≡ strongest b i name os x (e ∷ []) → z ≡ strongest b i name os y ys →
    z ≡ strongest b i name os n (xs ++ e ∷ ys)
strongest_three b i name os n x y z xs e ys h k l =
    l ∙ ap (λ m. strongest b i name os m ys) (k ∙ ap (λ m. strongest b i name os m (e ∷ [])) h) ∙ sym (strongest-append b i name os (strongest b i name os n xs) (e ∷ []) ys) ∙ sym (strongest-append b i name os n xs (e ∷ ys))

pub strongest_none : (b i name : ℕ) (os : List Overlay) (best : Option Entry) (xs : List Entry) → filter (passes b (At i)) xs ≡ [] → best ≡ strongest b i name os best xs
strongest_none b i name os best xs h = ap (λ zs. fold (λ m e. Some (stronger os m e)) best (filter (has_property name os) zs)) (sym h)
