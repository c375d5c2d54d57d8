-- A property set before and after one property is given or taken away.
use Rattle.std.proofs.Common.{◌≡◌, ◌≢◌, ℕ, zero, suc, ◌+◌, ◌≤◌, ◌<◌, Bool, true, false, List, [], ◌∷◌, ◌++◌, length, map, take, drop, get_or, refl, ap, sym, ◌∙◌, arith}
use Rattle.std.specs.Prelude.{if◌then◌else◌, ◌==◌, not, nat_lt, is_none}
use Rattle.std.specs.List.{prefix_len, insert, remove}
use Rattle.std.specs.List.Sorted.{IsNonDecreasingBy}
use Rattle.std.proofs.lemmas.List.{map-append, take-map, drop-map, take-append-drop, length-map, length-take-le}
use Rattle.std.proofs.Math.Seq.{take-append_seam, drop-append_seam}
use Rattle.std.proofs.lemmas.Bool.{eqb-true, eqb-false, eq-eqb, ne_eqb, ltb-true, ltb-false}
use Rattle.text_model.specs.Properties.{PropVal, Symbols, PropSet, without, with_value, given}
use Rattle.text_model.specs.Ordered.{Rising, IsValue, HasValues, IsProper}
use Rattle.text_model.proofs.Sets.{rising-without, rising-with_value}
use Rattle.text_model.proofs.Cases.{by_test}
use Rattle.ek_types.specs.Property.{is_before, without_first}

-- IN PARTS
-- where all names lie above one, it isn't there to take away
absent : (low : ℕ) (set : PropSet) (name : ℕ) → Rising low set → name < low → without set name ≡ set
absent low [] name r h = refl
absent low (p ∷ set) name r h = by_test (λ s. s ≡ p ∷ set) (not (p.0 == name)) (p ∷ without set name) (without set name)
    (λ k. ap (λ s. p ∷ s) (absent (p.0 + 1) set name r.1 (omega arith)))
    (λ k. absurd (not_equal (p.0 == name) refl k))
  where
    not_equal : (b : Bool) → (p.0 == name) ≡ b → not b ≡ false → ⊥
    not_equal true e k = let same : p.0 ≡ name = eqb-true p.0 name e in omega arith
    not_equal false e k = cc

without_least : (low : ℕ) (set : PropSet) (name : ℕ) → Rising low set → name ≤ low → without set name ≡ without_first name set
without_least low [] name r h = refl
without_least low (p ∷ set) name r h = head (p.0 == name) refl
  where
    head : (b : Bool) → (p.0 == name) ≡ b → (if not b then p ∷ without set name else without set name) ≡ (if b then set else p ∷ set)
    head true e = let same : p.0 ≡ name = eqb-true p.0 name e in absent (p.0 + 1) set name r.1 (omega arith)
    head false e = let other : p.0 ≢ name = eqb-false p.0 name e in ap (λ s. p ∷ s) (absent (p.0 + 1) set name r.1 (omega arith))

not_equal : (n name : ℕ) (b : Bool) → (n == name) ≡ b → not b ≡ false → n < name → ⊥
not_equal n name true e k l = let same : n ≡ name = eqb-true n name e in omega arith
not_equal n name false e k l = cc

more : (n : ℕ) → 1 + n ≡ suc n
more n = omega arith

abbrev Parts : (name : ℕ) → PropSet → ℕ → Type 0
Parts name set n = without set name ≡ take n set ++ without_first name (drop n set)

abbrev between : (name : ℕ) → PropVal → ℕ → PropSet → PropSet
between name v n set = take n set ++ ((name, v) ∷ without_first name (drop n set))

-- the names in front of a name, then the rest
pub without-parts : (low : ℕ) (set : PropSet) (name : ℕ) → Rising low set
    → without set name ≡ take (prefix_len (is_before name) set) set ++ without_first name (drop (prefix_len (is_before name) set) set)
without-parts low [] name r = refl
without-parts low (p ∷ set) name r = head (without-parts (p.0 + 1) set name r.1) (nat_lt p.0 name) refl
  where
    head : Parts name set (prefix_len (is_before name) set) → (b : Bool) → nat_lt p.0 name ≡ b → Parts name (p ∷ set) (if b then 1 + prefix_len (is_before name) set else 0)
    head ih true e =
        let lower : p.0 < name = ltb-true p.0 name e in
        let kept : without (p ∷ set) name ≡ p ∷ without set name = by_test (λ s. s ≡ p ∷ without set name) (not (p.0 == name)) (p ∷ without set name) (without set name)
        (λ k. refl) (λ k. absurd (not_equal p.0 name (p.0 == name) refl k lower)) in
        kept ∙ rw (more (prefix_len (is_before name) set)) (ap (λ s. p ∷ s) ih)
    head ih false e = without_least p.0 (p ∷ set) name (omega arith, r.1) (ltb-false p.0 name e)

pub with_value-parts : (low : ℕ) (set : PropSet) (name : ℕ) (v : PropVal) → Rising low set
    → with_value set name v ≡ take (prefix_len (is_before name) set) set ++ ((name, v) ∷ without_first name (drop (prefix_len (is_before name) set) set))
with_value-parts low [] name v r = refl
with_value-parts low (p ∷ set) name v r = head (with_value-parts (p.0 + 1) set name v r.1) (nat_lt p.0 name) refl
  where
    head : with_value set name v ≡ between name v (prefix_len (is_before name) set) set → (b : Bool) → nat_lt p.0 name ≡ b
        → (if b then p ∷ with_value set name v else ((name, v) ∷ without (p ∷ set) name)) ≡ between name v (if b then 1 + prefix_len (is_before name) set else 0) (p ∷ set)
    head ih true e = rw (more (prefix_len (is_before name) set)) (ap (λ s. p ∷ s) ih)
    head ih false e = ap (λ s. (name, v) ∷ s) (without_least p.0 (p ∷ set) name (omega arith, r.1) (ltb-false p.0 name e))

-- IN A LIST OF THE CODE
pub prefix_len-map : {X Y : Type 0} (f : X → Y) (p : Y → Bool) (xs : List X) → prefix_len p (map f xs) ≡ prefix_len (λ x. p (f x)) xs
prefix_len-map f p [] = refl
prefix_len-map f p (x ∷ xs) = ap (λ n. if p (f x) then 1 + n else 0) (prefix_len-map f p xs)

pub drop_found : {T : Type 0} (f : T → ℕ × PropVal) (xs : List T) (i : ℕ) (d : T) (name : ℕ) → i < length xs → (f (get_or xs i d)).0 ≡ name → drop (i + 1) (map f xs) ≡ without_first name (drop i (map f xs))
drop_found f [] i d name h e = absurd (omega arith)
drop_found f (y ∷ xs) zero d name h e = rw (eq-eqb (f y).0 name e) refl
drop_found f (y ∷ xs) (suc i) d name h e = let next : suc i + 1 ≡ suc (i + 1) = omega arith in rw next (drop_found f xs i d name (omega arith) e)

pub drop_other : {T : Type 0} (f : T → ℕ × PropVal) (xs : List T) (i : ℕ) (d : T) (name : ℕ) → i < length xs → (f (get_or xs i d)).0 ≢ name → drop i (map f xs) ≡ without_first name (drop i (map f xs))
drop_other f [] i d name h e = absurd (omega arith)
drop_other f (y ∷ xs) zero d name h e = rw (ne_eqb (f y).0 name e) refl
drop_other f (y ∷ xs) (suc i) d name h e = drop_other f xs i d name (omega arith) e

pub drop_none : {T : Type 0} (f : T → ℕ × PropVal) (xs : List T) (i : ℕ) (name : ℕ) → length xs ≤ i → drop i (map f xs) ≡ without_first name (drop i (map f xs))
drop_none f [] zero name h = refl
drop_none f [] (suc i) name h = refl
drop_none f (y ∷ xs) zero name h = absurd (omega arith)
drop_none f (y ∷ xs) (suc i) name h = drop_none f xs i name (omega arith)

-- VALUES
has_values-without : (set : PropSet) (name : ℕ) → HasValues set → HasValues (without set name)
has_values-without [] name h = tt
has_values-without (p ∷ set) name h = by_test HasValues (not (p.0 == name)) (p ∷ without set name) (without set name) (λ k. (h.0, has_values-without set name h.1)) (λ k. has_values-without set name h.1)

has_values-with_value : (set : PropSet) (name : ℕ) (v : PropVal) → IsValue v → HasValues set → HasValues (with_value set name v)
has_values-with_value [] name v g h = (g, tt)
has_values-with_value (p ∷ set) name v g h = by_test HasValues (nat_lt p.0 name) (p ∷ with_value set name v) ((name, v) ∷ without (p ∷ set) name)
    (λ k. (h.0, has_values-with_value set name v g h.1)) (λ k. (g, has_values-without (p ∷ set) name h))

pub proper-without : (set : PropSet) (name : ℕ) → IsProper set → IsProper (without set name)
proper-without set name h = record { ordered = rising-without 0 set name h.ordered; values = has_values-without set name h.values }

pub proper-with_value : (set : PropSet) (name : ℕ) (v : PropVal) → IsValue v → IsProper set → IsProper (with_value set name v)
proper-with_value set name v g h = record { ordered = rising-with_value 0 set name v (omega arith) h.ordered; values = has_values-with_value set name v g h.values }

-- what isn't nil is a value
pub value_where : (v : PropVal) → is_none (given v) ≡ false → IsValue v
value_where PropVal.Truth h = tt
value_where (PropVal.Number i) h = tt
value_where (PropVal.Symbol s) h = tt
value_where (Symbols []) h = cc
value_where (Symbols (n ∷ names)) h = tt
value_where (PropVal.Text text) h = tt

-- TAKEN OUT AND PUT IN
abbrev at_front : (name : ℕ) → ℕ → PropSet → PropSet
at_front name i set = take i set ++ without_first name (drop i set)

pub taken_found : {T : Type 0} (f : T → ℕ × PropVal) (xs : List T) (i : ℕ) (d : T) (name : ℕ) → i < length xs → (f (get_or xs i d)).0 ≡ name
    → map f (remove xs i) ≡ at_front name i (map f xs)
taken_found f xs i d name h e =
    let next : suc i ≡ i + 1 = omega arith in
    let found : drop (suc i) (map f xs) ≡ without_first name (drop i (map f xs)) = rw next (drop_found f xs i d name h e) in
    map-append f (take i xs) (drop (suc i) xs) ∙ ap (λ s. s ++ map f (drop (suc i) xs)) (sym (take-map f i xs)) ∙ ap (λ s. take i (map f xs) ++ s) (sym (drop-map f (suc i) xs) ∙ found)

pub taken_other : {T : Type 0} (f : T → ℕ × PropVal) (xs : List T) (i name : ℕ) → drop i (map f xs) ≡ without_first name (drop i (map f xs))
    → map f xs ≡ at_front name i (map f xs)
taken_other f xs i name e = sym (take-append-drop i (map f xs)) ∙ ap (λ s. take i (map f xs) ++ s) e

pub without_made : {T : Type 0} (f : T → ℕ × PropVal) (xs ys : List T) (at name : ℕ) → IsProper (map f xs) → at ≡ prefix_len (λ p. is_before name (f p)) xs
    → map f ys ≡ at_front name at (map f xs) → map f ys ≡ without (map f xs) name
without_made f xs ys at name h place e =
    let front : at ≡ prefix_len (is_before name) (map f xs) = place ∙ sym (prefix_len-map f (is_before name) xs) in
    e ∙ rw front (sym (without-parts 0 (map f xs) name h.ordered))

put_in : (first second : PropSet) (i : ℕ) (p : ℕ × PropVal) → length first ≡ i → insert (first ++ second) i p ≡ first ++ p ∷ second
put_in first second i p e =
    let front : take i (first ++ second) ≡ first = rw (← e) (take-append_seam first second) in
    let rest : drop i (first ++ second) ≡ second = rw (← e) (drop-append_seam first second) in
    ap (λ s. s ++ p ∷ drop i (first ++ second)) front ∙ ap (λ s. first ++ p ∷ s) rest

insert-map : {T : Type 0} (f : T → ℕ × PropVal) (xs : List T) (i : ℕ) (x : T) → map f (insert xs i x) ≡ insert (map f xs) i (f x)
insert-map f xs i x =
    map-append f (take i xs) (x ∷ drop i xs) ∙ ap (λ s. s ++ f x ∷ map f (drop i xs)) (sym (take-map f i xs)) ∙ ap (λ s. take i (map f xs) ++ f x ∷ s) (sym (drop-map f i xs))

pub with_made : {T : Type 0} (f : T → ℕ × PropVal) (xs ys : List T) (x : T) (at : ℕ) → IsProper (map f xs) → at ≡ prefix_len (λ p. is_before (f x).0 (f p)) xs → at ≤ length xs
    → map f ys ≡ at_front (f x).0 at (map f xs) → map f (insert ys at x) ≡ with_value (map f xs) (f x).0 (f x).1
with_made f xs ys x at h place within e =
    let front : at ≡ prefix_len (is_before (f x).0) (map f xs) = place ∙ sym (prefix_len-map f (is_before (f x).0) xs) in
    let size : length (take at (map f xs)) ≡ at = length-take-le at (map f xs) (rw (length-map xs f) within) in
    insert-map f ys at x ∙ ap (λ s. insert s at (f x)) e ∙ put_in (take at (map f xs)) (without_first (f x).0 (drop at (map f xs))) at (f x) size
    ∙ rw front (sym (with_value-parts 0 (map f xs) (f x).0 (f x).1 h.ordered))

-- BY RISING NAME
above : {T : Type 0} (f : T → ℕ × PropVal) (low : ℕ) (xs : List T) (j : ℕ) (d : T) → Rising low (map f xs) → j < length xs → low ≤ (f (get_or xs j d)).0
above f low [] j d h l = absurd (omega arith)
above f low (x ∷ xs) zero d h l = h.0
above f low (x ∷ xs) (suc j) d h l = let first = h.0 in let later = above f ((f x).0 + 1) xs j d h.1 (omega arith) in omega arith

pub names_rise : {T : Type 0} (f : T → ℕ × PropVal) (low : ℕ) (xs : List T) → Rising low (map f xs) → IsNonDecreasingBy (λ x. (f x).0) xs
names_rise f low [] h i j d k l = absurd (omega arith)
names_rise f low (x ∷ xs) h zero zero d k l = omega arith
names_rise f low (x ∷ xs) h zero (suc j) d k l = let later = above f ((f x).0 + 1) xs j d h.1 (omega arith) in omega arith
names_rise f low (x ∷ xs) h (suc i) zero d k l = absurd (omega arith)
names_rise f low (x ∷ xs) h (suc i) (suc j) d k l = names_rise f ((f x).0 + 1) xs h.1 i j d (omega arith) (omega arith)
