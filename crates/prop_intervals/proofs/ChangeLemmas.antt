-- The sets of a part before and after a change.
use Rattle.std.proofs.Common.{◌≡◌, ℕ, zero, suc, ◌+◌, ◌-◌, ◌≤◌, ◌<◌, Bool, true, false, List, [], ◌∷◌, ◌++◌, length, map, take, drop, refl, ap, sym, ◌∙◌, append_assoc, length-take, arith}
use Rattle.std.specs.Prelude.{◌&&◌, ◌||◌, not, replicate}
use Rattle.std.proofs.lemmas.List.{length-replicate, length-map, map-append, take-append-drop, drop-append-le, take-take, take-append-le, take-replicate}
use Rattle.std.proofs.Math.Seq.{take-append-add}
use Rattle.text_model.specs.Properties.{PropSet, same_list, same_set}
use Rattle.text_model.proofs.Sameness.{same_list-sound, same_list-same, same_set-sound, same_set-same}
use Rattle.prop_intervals.specs.Runs.{Run, size, sets_of, IsRunAt}
use Rattle.prop_intervals.proofs.SetLemmas.{length-sets_of, drop_found}

pub same_list-append : {A : Type 0} (same : A → A → Bool) (xs ys vs ws : List A) → length xs ≡ length ys → same_list same (xs ++ vs) (ys ++ ws) ≡ (same_list same xs ys && same_list same vs ws)
same_list-append same [] [] vs ws h = refl
same_list-append same [] (y ∷ ys) vs ws h = absurd (omega arith)
same_list-append same (x ∷ xs) [] vs ws h = absurd (omega arith)
same_list-append same (x ∷ xs) (y ∷ ys) vs ws h = ap (λ b. same x y && b) (same_list-append same xs ys vs ws (omega arith)) ∙ assoc (same x y) (same_list same xs ys) (same_list same vs ws)
  where
    assoc : (a b c : Bool) → (a && (b && c)) ≡ ((a && b) && c)
    assoc true b c = refl
    assoc false b c = refl

same_list-replicate : {A : Type 0} (same : A → A → Bool) (n : ℕ) (x y : A) → same_list same (replicate (suc n) x) (replicate (suc n) y) ≡ same x y
same_list-replicate same zero x y = unit (same x y)
  where
    unit : (a : Bool) → (a && true) ≡ a
    unit true = refl
    unit false = refl
same_list-replicate same (suc n) x y = ap (λ b. same x y && b) (same_list-replicate same n x y) ∙ twice (same x y)
  where
    twice : (a : Bool) → (a && a) ≡ a
    twice true = refl
    twice false = refl

one_run_same : {A : Type 0} (same : A → A → Bool) (n : ℕ) (x y : A) → 0 < n → same_list same (replicate n x) (replicate n y) ≡ same x y
one_run_same same zero x y h = absurd (omega arith)
one_run_same same (suc n) x y h = same_list-replicate same n x y

map-replicate : {A B : Type 0} (f : A → B) (n : ℕ) (x : A) → map f (replicate n x) ≡ replicate n (f x)
map-replicate f zero x = refl
map-replicate f (suc n) x = ap (λ l. f x ∷ l) (map-replicate f n x)

abbrev pub part_of : (from to : ℕ) → List PropSet → List PropSet
part_of from to sets = drop from (take to sets)

pub take_add : {A : Type 0} (n m : ℕ) (xs : List A) → n ≤ length xs → take (n + m) xs ≡ take n xs ++ take m (drop n xs)
take_add n m xs h =
    let l : length (take n xs) ≡ n = omega (arith, length-take n xs) in
    ap (take (n + m)) (sym (take-append-drop n xs)) ∙ ap (λ k. take (k + m) (take n xs ++ drop n xs)) (sym l) ∙ take-append-add (take n xs) (drop n xs) m

-- the part up to the end of a run, or to a place in it
pub part_more : (runs : List Run) (from place end : ℕ) (set : PropSet) (start stop : ℕ) → from ≤ place → place ≤ end → end ≤ stop → stop ≤ size runs → IsRunAt runs place set start stop →
    part_of from end (sets_of runs) ≡ part_of from place (sets_of runs) ++ replicate (end - place) set
part_more runs from place end set start stop a b d w h =
    let t = h.ends in
    let whole = length-sets_of runs in
    let e : place + (end - place) ≡ end = omega arith in
    let l : from ≤ length (take place (sets_of runs)) = omega (arith, length-take place (sets_of runs)) in
    let r : end - place ≤ length (replicate (stop - place) set) = omega (arith, length-replicate (stop - place) set) in
    let rest : take (end - place) (drop place (sets_of runs)) ≡ replicate (end - place) set =
    ap (take (end - place)) (drop_found runs place set start stop h) ∙ take-append-le (end - place) (replicate (stop - place) set) (sets_of h.back) r ∙ take-replicate (end - place) (stop - place) set (omega arith) in
    ap (λ k. drop from (take k (sets_of runs))) (sym e) ∙ ap (drop from) (take_add place (end - place) (sets_of runs) (omega arith) ∙ ap (λ s. take place (sets_of runs) ++ s) rest)
    ∙ drop-append-le from (take place (sets_of runs)) (replicate (end - place) set) l

pub sets_more : (f : PropSet → PropSet) (old new : List PropSet) (part : List PropSet) (n : ℕ) (set s : PropSet) → s ≡ f set → old ≡ map f part → new ≡ old ++ replicate n s → new ≡ map f (part ++ replicate n set)
sets_more f old new part n set s e h k =
    k ∙ ap (λ l. l ++ replicate n s) h ∙ ap (λ t. map f part ++ replicate n t) e ∙ ap (λ l. map f part ++ l) (sym (map-replicate f n set)) ∙ sym (map-append f part (replicate n set))

pub changed_more : (f : PropSet → PropSet) (part runs new : List PropSet) (n : ℕ) (set s : PropSet) (changed : Bool) → 0 < n → runs ≡ map f part → changed ≡ not (same_list same_set part runs) → new ≡ runs ++ replicate n s →
    (changed || not (same_set set s)) ≡ not (same_list same_set (part ++ replicate n set) new)
changed_more f part runs new n set s changed l e h k =
    let lengths : length part ≡ length runs = sym (ap length e ∙ length-map part f) in
    ap (λ b. b || not (same_set set s)) h ∙ demorgan (same_list same_set part runs) (same_set set s)
    ∙ ap not (sym (ap (λ r. same_list same_set (part ++ replicate n set) r) k ∙ same_list-append same_set part runs (replicate n set) (replicate n s) lengths ∙ ap (λ b. same_list same_set part runs && b) (one_run_same same_set n set s l)))
  where
    demorgan : (a b : Bool) → (not a || not b) ≡ not (a && b)
    demorgan true b = refl
    demorgan false b = refl

-- the whole text
pub whole_same : (from to : ℕ) (old new : List PropSet) → from ≤ to → to ≤ length old → length new ≡ length (part_of from to old) →
    same_list same_set old (take from old ++ (new ++ drop to old)) ≡ same_list same_set (part_of from to old) new
whole_same from to old new a b e =
    let whole : old ≡ take from old ++ (part_of from to old ++ drop to old) = in_parts from to old a b in
    ap (λ s. same_list same_set s (take from old ++ (new ++ drop to old))) whole
    ∙ same_list-append same_set (take from old) (take from old) (part_of from to old ++ drop to old) (new ++ drop to old) refl
    ∙ ap (λ t. t && same_list same_set (part_of from to old ++ drop to old) (new ++ drop to old)) (same_list-same same_set same_set-same (take from old))
    ∙ same_list-append same_set (part_of from to old) new (drop to old) (drop to old) (sym e)
    ∙ ap (λ t. same_list same_set (part_of from to old) new && t) (same_list-same same_set same_set-same (drop to old)) ∙ unit (same_list same_set (part_of from to old) new)
  where
    unit : (a : Bool) → (a && true) ≡ a
    unit true = refl
    unit false = refl

    in_parts : (from to : ℕ) (old : List PropSet) → from ≤ to → to ≤ length old → old ≡ take from old ++ (part_of from to old ++ drop to old)
    in_parts from to old a b =
        let front : take to old ≡ take from old ++ part_of from to old = sym (take-append-drop from (take to old)) ∙ ap (λ t. t ++ part_of from to old) (take-take from to old a) in
        sym (take-append-drop to old) ∙ ap (λ t. t ++ drop to old) front ∙ append_assoc (take from old) (part_of from to old) (drop to old)

-- a part that is the same is left as it is
pub nothing_changed : (from to : ℕ) (old new : List PropSet) → from ≤ to → to ≤ length old → same_list same_set (part_of from to old) new ≡ true → old ≡ take from old ++ (new ++ drop to old)
nothing_changed from to old new a b h =
    let e : part_of from to old ≡ new = same_list-sound same_set same_set-sound (part_of from to old) new h in
    let front : take to old ≡ take from old ++ part_of from to old = sym (take-append-drop from (take to old)) ∙ ap (λ t. t ++ part_of from to old) (take-take from to old a) in
    sym (take-append-drop to old) ∙ ap (λ t. t ++ drop to old) front ∙ append_assoc (take from old) (part_of from to old) (drop to old) ∙ ap (λ p. take from old ++ (p ++ drop to old)) e
