-- The runs of a piece around a place, and a property set given to a part of it.
use Rattle.std.proofs.Common.{◌≡◌, ℕ, zero, suc, ◌+◌, ◌-◌, ◌≤◌, ◌<◌, Bool, true, false, List, [], ◌∷◌, ◌++◌, length, map, take, drop, get_or, refl, ap, sym, ◌∙◌, arith, append_assoc}
use Rattle.std.specs.Prelude.{replicate, nat_le, nat_lt, if◌then◌else◌, Some, slice_get, option_map}
use Rattle.std.specs.List.{zip, prefix_len}
use Rattle.std.specs.List.Sorted.{IsNonDecreasingBy, IsPartitionPoint}
use Rattle.std.proofs.lemmas.Bool.{leb-true, leb-false, ltb-false, le-leb}
use Rattle.std.proofs.lemmas.Option.{slice_get-map}
use Rattle.text_model.specs.Characters.{Ch}
use Rattle.text_model.specs.Properties.{PropSet, with_sets}
use Rattle.ek_types.specs.Runs.{sets_from, AreRising, start_of, ends_by, set_at, rest_to}
use Rattle.ek_types.specs.declared.content.Run.{Run}
use Rattle.ek_types.proofs.Pieces.{length-sets_from}

-- REPEATED VALUES
drop_front : {A : Type 0} (n m : ℕ) (x : A) (xs : List A) → m ≤ n → drop m (replicate n x ++ xs) ≡ replicate (n - m) x ++ xs
drop_front n zero x xs h = let same : n - 0 ≡ n = omega arith in rw same refl
drop_front zero (suc m) x xs h = absurd (omega arith)
drop_front (suc n) (suc m) x xs h = let less : suc n - suc m ≡ n - m = omega arith in rw less (drop_front n m x xs (omega arith))

drop_behind : {A : Type 0} (n m : ℕ) (x : A) (xs : List A) → n ≤ m → drop m (replicate n x ++ xs) ≡ drop (m - n) xs
drop_behind zero m x xs h = let same : m - 0 ≡ m = omega arith in rw same refl
drop_behind (suc n) zero x xs h = absurd (omega arith)
drop_behind (suc n) (suc m) x xs h = let less : suc m - suc n ≡ m - n = omega arith in rw less (drop_behind n m x xs (omega arith))

drop_all : {A : Type 0} (n m : ℕ) (x : A) → drop m (replicate n x) ≡ replicate (n - m) x
drop_all n zero x = let same : n - 0 ≡ n = omega arith in rw same refl
drop_all zero (suc m) x = let none : 0 - suc m ≡ 0 = omega arith in rw none refl
drop_all (suc n) (suc m) x = let less : suc n - suc m ≡ n - m = omega arith in rw less (drop_all n m x)

take_front : {A : Type 0} (n m : ℕ) (x : A) (xs : List A) → m ≤ n → take m (replicate n x ++ xs) ≡ replicate m x
take_front n zero x xs h = refl
take_front zero (suc m) x xs h = absurd (omega arith)
take_front (suc n) (suc m) x xs h = ap (λ l. x ∷ l) (take_front n m x xs (omega arith))

take_behind : {A : Type 0} (n m : ℕ) (x : A) (xs : List A) → n ≤ m → take m (replicate n x ++ xs) ≡ replicate n x ++ take (m - n) xs
take_behind zero m x xs h = let same : m - 0 ≡ m = omega arith in rw same refl
take_behind (suc n) zero x xs h = absurd (omega arith)
take_behind (suc n) (suc m) x xs h = let less : suc m - suc n ≡ m - n = omega arith in rw less (ap (λ l. x ∷ l) (take_behind n m x xs (omega arith)))

take_all : {A : Type 0} (n m : ℕ) (x : A) → m ≤ n → take m (replicate n x) ≡ replicate m x
take_all n zero x h = refl
take_all zero (suc m) x h = absurd (omega arith)
take_all (suc n) (suc m) x h = ap (λ l. x ∷ l) (take_all n m x (omega arith))

get_all : {A : Type 0} (n i : ℕ) (x : A) → i < n → slice_get (replicate n x) i ≡ Some x
get_all zero i x h = absurd (omega arith)
get_all (suc n) zero x h = refl
get_all (suc n) (suc i) x h = get_all n i x (omega arith)

get_front : {A : Type 0} (n i : ℕ) (x : A) (xs : List A) → i < n → slice_get (replicate n x ++ xs) i ≡ Some x
get_front zero i x xs h = absurd (omega arith)
get_front (suc n) zero x xs h = refl
get_front (suc n) (suc i) x xs h = get_front n i x xs (omega arith)

get_behind : {A : Type 0} (n i : ℕ) (x : A) (xs : List A) → n ≤ i → slice_get (replicate n x ++ xs) i ≡ slice_get xs (i - n)
get_behind zero i x xs h = let same : i - 0 ≡ i = omega arith in rw same refl
get_behind (suc n) zero x xs h = absurd (omega arith)
get_behind (suc n) (suc i) x xs h = let less : suc i - suc n ≡ i - n = omega arith in rw less (get_behind n i x xs (omega arith))

-- RUNS BY THEIR ENDS
above : (low : ℕ) (runs : List Run) (size : ℕ) (j : ℕ) (d : Run) → AreRising low runs size → j < length runs → low ≤ (get_or runs j d).end
above low [] size j d h l = absurd (omega arith)
above low (r ∷ runs) size zero d h l = h.0
above low (r ∷ runs) size (suc j) d h l = let more = above r.end runs size j d h.1 (omega arith) in let here = h.0 in omega arith

pub ends_rise : (low : ℕ) (runs : List Run) (size : ℕ) → AreRising low runs size → IsNonDecreasingBy (λ r. r.end) runs
ends_rise low [] size h i j d k l = absurd (omega arith)
ends_rise low (r ∷ runs) size h zero zero d k l = omega arith
ends_rise low (r ∷ runs) size h zero (suc j) d k l = above r.end runs size j d h.1 (omega arith)
ends_rise low (r ∷ runs) size h (suc i) zero d k l = absurd (omega arith)
ends_rise low (r ∷ runs) size h (suc i) (suc j) d k l = ends_rise r.end runs size h.1 i j d (omega arith) (omega arith)

pub start_behind : (low : ℕ) (runs : List Run) (k : ℕ) (d : Run) → k < length runs → (get_or runs k d).end ≡ start_of low (suc k) runs
start_behind low [] k d h = absurd (omega arith)
start_behind low (r ∷ runs) zero d h = refl
start_behind low (r ∷ runs) (suc k) d h = start_behind r.end runs k d (omega arith)

pub ends_in : (place : ℕ) (r : Run) (runs : List Run) → nat_le r.end place ≡ true → prefix_len (ends_by place) (r ∷ runs) ≡ suc (prefix_len (ends_by place) runs)
ends_in place r runs e = let more : 1 + prefix_len (ends_by place) runs ≡ suc (prefix_len (ends_by place) runs) = omega arith in rw e more

pub ends_out : (place : ℕ) (r : Run) (runs : List Run) → nat_le r.end place ≡ false → prefix_len (ends_by place) (r ∷ runs) ≡ 0
ends_out place r runs e = rw e refl

-- a place in the list with what passes a test in front of it alone is the count of what passes at the front
pub counted : {X : Type 0} (p : X → Bool) (xs : List X) (i : ℕ) → i ≤ length xs → IsPartitionPoint (λ y. p y ≡ true) (λ y. p y ≡ false) xs i → i ≡ prefix_len p xs
counted p [] i h point = omega arith
counted p (x ∷ xs) zero h point = sym (rw (point.1 0 x (omega arith) (omega arith)) refl)
counted p (x ∷ xs) (suc i) h point =
    let more : 1 + i ≡ suc i = omega arith in
    let rest : i ≡ prefix_len p xs = counted p xs i (omega arith) ((λ k d a b. point.0 (suc k) d (omega arith) (omega arith)), (λ k d a b. point.1 (suc k) d (omega arith) (omega arith))) in
    rw (point.0 0 x (omega arith) (omega arith), ← rest) (sym more)

-- the runs behind a place give the sets behind it
pub behind_rising : (low : ℕ) (runs : List Run) (size place : ℕ) → AreRising low runs size → low ≤ place → place ≤ size → AreRising place (drop (prefix_len (ends_by place) runs) runs) size
behind_rising low [] size place h a b = b
behind_rising low (r ∷ runs) size place h a b = by (λ k. behind_rising r.end runs size place h.1 k b) (nat_le r.end place) refl
  where
    by : (r.end ≤ place → AreRising place (drop (prefix_len (ends_by place) runs) runs) size) → (t : Bool) → nat_le r.end place ≡ t → AreRising place (drop (prefix_len (ends_by place) (r ∷ runs)) (r ∷ runs)) size
    by rest true e = rw (ends_in place r runs e) (rest (leb-true r.end place e))
    by rest false e = rw (ends_out place r runs e) (let over : place < r.end = leb-false r.end place e in omega arith, h.1)

pub sets_behind : (low : ℕ) (runs : List Run) (size place : ℕ) → AreRising low runs size → low ≤ place → place ≤ size
    → sets_from place (drop (prefix_len (ends_by place) runs) runs) size ≡ drop (place - low) (sets_from low runs size)
sets_behind low [] size place h a b = let left : (size - low) - (place - low) ≡ size - place = omega arith in sym (drop_all (size - low) (place - low) [] ∙ ap (λ n. replicate n []) left)
sets_behind low (r ∷ runs) size place h a b = by (λ k. sets_behind r.end runs size place h.1 k b) (nat_le r.end place) refl
  where
    by : (r.end ≤ place → sets_from place (drop (prefix_len (ends_by place) runs) runs) size ≡ drop (place - r.end) (sets_from r.end runs size)) → (t : Bool) → nat_le r.end place ≡ t
        → sets_from place (drop (prefix_len (ends_by place) (r ∷ runs)) (r ∷ runs)) size ≡ drop (place - low) (replicate (r.end - low) r.set ++ sets_from r.end runs size)
    by rest true e =
        let under : r.end ≤ place = leb-true r.end place e in
        let here : low ≤ r.end = h.0 in
        let left : (place - low) - (r.end - low) ≡ place - r.end = omega arith in
        rw (ends_in place r runs e)
        (rest under ∙ sym (drop_behind (r.end - low) (place - low) r.set (sets_from r.end runs size) (omega arith) ∙ ap (λ n. drop n (sets_from r.end runs size)) left))
    by rest false e =
        let over : place < r.end = leb-false r.end place e in
        let left : (r.end - low) - (place - low) ≡ r.end - place = omega arith in
        rw (ends_out place r runs e)
        (sym (drop_front (r.end - low) (place - low) r.set (sets_from r.end runs size) (omega arith) ∙ ap (λ n. replicate n r.set ++ sets_from r.end runs size) left))

-- the set at a place is that of the first run that ends behind it
pub set_there : (low : ℕ) (runs : List Run) (size place : ℕ) → AreRising low runs size → low ≤ place → place < size
    → slice_get (sets_from low runs size) (place - low) ≡ Some (set_at (prefix_len (ends_by place) runs) runs)
set_there low [] size place h a b = get_all (size - low) (place - low) [] (omega arith)
set_there low (r ∷ runs) size place h a b = by (λ k. set_there r.end runs size place h.1 k b) (nat_le r.end place) refl
  where
    by : (r.end ≤ place → slice_get (sets_from r.end runs size) (place - r.end) ≡ Some (set_at (prefix_len (ends_by place) runs) runs)) → (t : Bool) → nat_le r.end place ≡ t
        → slice_get (replicate (r.end - low) r.set ++ sets_from r.end runs size) (place - low) ≡ Some (set_at (prefix_len (ends_by place) (r ∷ runs)) (r ∷ runs))
    by rest true e =
        let under : r.end ≤ place = leb-true r.end place e in
        let here : low ≤ r.end = h.0 in
        let left : (place - low) - (r.end - low) ≡ place - r.end = omega arith in
        rw (ends_in place r runs e)
        (get_behind (r.end - low) (place - low) r.set (sets_from r.end runs size) (omega arith) ∙ ap (λ n. slice_get (sets_from r.end runs size) n) left ∙ rest under)
    by rest false e =
        let over : place < r.end = leb-false r.end place e in
        rw (ends_out place r runs e) (get_front (r.end - low) (place - low) r.set (sets_from r.end runs size) (omega arith))

pub set_found : (runs : List Run) (k : ℕ) (d : Run) → k < length runs → (get_or runs k d).set ≡ set_at k runs
set_found [] k d h = absurd (omega arith)
set_found (r ∷ runs) zero d h = refl
set_found (r ∷ runs) (suc k) d h = set_found runs k d (omega arith)

pub set_absent : (runs : List Run) (k : ℕ) → length runs ≤ k → set_at k runs ≡ []
set_absent [] k h = refl
set_absent (r ∷ runs) zero h = absurd (omega arith)
set_absent (r ∷ runs) (suc k) h = set_absent runs k (omega arith)

-- more runs end by a later place
pub more_by_later : (from to : ℕ) (runs : List Run) → from ≤ to → prefix_len (ends_by from) runs ≤ prefix_len (ends_by to) runs
more_by_later from to [] h = omega arith
more_by_later from to (r ∷ runs) h = by (more_by_later from to runs h) (nat_le r.end from) refl
  where
    by : prefix_len (ends_by from) runs ≤ prefix_len (ends_by to) runs → (t : Bool) → nat_le r.end from ≡ t → prefix_len (ends_by from) (r ∷ runs) ≤ prefix_len (ends_by to) (r ∷ runs)
    by rest true e = let under : r.end ≤ from = leb-true r.end from e in rw (ends_in from r runs e, ends_in to r runs (le-leb r.end to (omega arith))) (omega arith)
    by rest false e = rw (ends_out from r runs e) (omega arith)

-- A SET GIVEN
-- runs with a new one in the place of those between two places
abbrev pub runs_with : (low from to : ℕ) → PropSet → (first behind : ℕ) → List Run → List Run
runs_with low from to set first behind runs = take first runs ++ ((rest_to low from first runs ++ record { end = to; set = set } ∷ []) ++ drop behind runs)

abbrev pub sets_with : (from to : ℕ) → PropSet → List PropSet → List PropSet
sets_with from to set sets = take from sets ++ (replicate (to - from) set ++ drop to sets)

abbrev Gives : (low from to : ℕ) → PropSet → List Run → (size : ℕ) → List Run → Type 0
Gives low from to set runs size new =
    AreRising low new size × (sets_from low new size ≡ take (from - low) (sets_from low runs size) ++ (replicate (to - from) set ++ drop (to - low) (sets_from low runs size)))

abbrev Laid : (low from to : ℕ) → (x set : PropSet) → List Run → (size : ℕ) → Bool → Type 0
Laid low from to x set back size cut =
    AreRising low (((if cut then record { end = from; set = x } ∷ [] else []) ++ record { end = to; set = set } ∷ []) ++ back) size ×
    (sets_from low (((if cut then record { end = from; set = x } ∷ [] else []) ++ record { end = to; set = set } ∷ []) ++ back) size ≡ replicate (from - low) x ++ (replicate (to - from) set ++ sets_from to back size))

laid : (low from to : ℕ) (x set : PropSet) (back : List Run) (size : ℕ) → low ≤ from → from ≤ to → AreRising to back size → (cut : Bool) → nat_lt low from ≡ cut → Laid low from to x set back size cut
laid low from to x set back size a b r true e = ((a, (b, r)), refl)
laid low from to x set back size a b r false e =
    let under : from ≤ low = ltb-false low from e in
    let same : low ≡ from = omega arith in
    let none : from - low ≡ 0 = omega arith in
    ((omega arith, r), rw none (ap (λ n. replicate (to - n) set ++ sets_from to back size) same))

given_front : (low from to : ℕ) (x set : PropSet) (runs : List Run) (size : ℕ) → AreRising low runs size → low ≤ from → from ≤ to → to ≤ size
    → take (from - low) (sets_from low runs size) ≡ replicate (from - low) x → Gives low from to set runs size (((if nat_lt low from then record { end = from; set = x } ∷ [] else []) ++ record { end = to; set = set } ∷ []) ++ drop (prefix_len (ends_by to) runs) runs)
given_front low from to x set runs size h a b c front =
    let parts = laid low from to x set (drop (prefix_len (ends_by to) runs) runs) size a b (behind_rising low runs size to h (omega arith) c) (nat_lt low from) refl in
    (parts.0, parts.1 ∙ ap (λ l. l ++ (replicate (to - from) set ++ sets_from to (drop (prefix_len (ends_by to) runs) runs) size)) (sym front) ∙ ap (λ l. take (from - low) (sets_from low runs size) ++ (replicate (to - from) set ++ l)) (sets_behind low runs size to h (omega arith) c))

pub given_between : (low from to : ℕ) (set : PropSet) (runs : List Run) (size : ℕ) → AreRising low runs size → low ≤ from → from ≤ to → to ≤ size
    → Gives low from to set runs size (runs_with low from to set (prefix_len (ends_by from) runs) (prefix_len (ends_by to) runs) runs)
given_between low from to set [] size h a b c = given_front low from to [] set [] size h a b c (take_all (size - low) (from - low) [] (omega arith))
given_between low from to set (r ∷ runs) size h a b c = by (λ k. given_between r.end from to set runs size h.1 k b c) (nat_le r.end from) refl
  where
    by : (r.end ≤ from → Gives r.end from to set runs size (runs_with r.end from to set (prefix_len (ends_by from) runs) (prefix_len (ends_by to) runs) runs)) → (t : Bool) → nat_le r.end from ≡ t → Gives low from to set (r ∷ runs) size (runs_with low from to set (prefix_len (ends_by from) (r ∷ runs)) (prefix_len (ends_by to) (r ∷ runs)) (r ∷ runs))
    by ih true e =
        let under : r.end ≤ from = leb-true r.end from e in
        let here : low ≤ r.end = h.0 in
        let rest = ih under in
        let sets = sets_from r.end runs size in
        let from_there : (from - low) - (r.end - low) ≡ from - r.end = omega arith in
        let to_there : (to - low) - (r.end - low) ≡ to - r.end = omega arith in
        let front : take (from - low) (replicate (r.end - low) r.set ++ sets) ≡ replicate (r.end - low) r.set ++ take (from - r.end) sets
        = take_behind (r.end - low) (from - low) r.set sets (omega arith) ∙ ap (λ n. replicate (r.end - low) r.set ++ take n sets) from_there in
        let back : drop (to - low) (replicate (r.end - low) r.set ++ sets) ≡ drop (to - r.end) sets
        = drop_behind (r.end - low) (to - low) r.set sets (omega arith) ∙ ap (λ n. drop n sets) to_there in
        rw (ends_in from r runs e, ends_in to r runs (le-leb r.end to (omega arith)))
        ((h.0, rest.0), rw (front, back) (ap (λ l. replicate (r.end - low) r.set ++ l) rest.1 ∙ sym (append_assoc (replicate (r.end - low) r.set) (take (from - r.end) sets) _)))
    by ih false e =
        let over : from < r.end = leb-false r.end from e in
        rw (ends_out from r runs e)
        (given_front low from to r.set set (r ∷ runs) size h a b c (take_front (r.end - low) (from - low) r.set (sets_from r.end runs size) (omega arith)))

-- BESIDE THE CHARACTERS
pub seconds-zip : {A B : Type 0} (xs : List A) (ys : List B) → length ys ≡ length xs → map (λ c. c.1) (zip xs ys) ≡ ys
seconds-zip [] [] h = refl
seconds-zip [] (y ∷ ys) h = absurd (omega arith)
seconds-zip (x ∷ xs) [] h = absurd (omega arith)
seconds-zip (x ∷ xs) (y ∷ ys) h = ap (λ l. y ∷ l) (seconds-zip xs ys (omega arith))

pub zip_with : (from to : ℕ) (set : PropSet) (text : List Ch) (sets : List PropSet) → length sets ≡ length text → from ≤ to → to ≤ length text
    → zip text (sets_with from to set sets) ≡ with_sets from to (λ old. set) (zip text sets)
zip_with zero zero set text sets e a b = refl
zip_with zero (suc to) set [] sets e a b = absurd (omega arith)
zip_with zero (suc to) set (c ∷ text) [] e a b = absurd (omega arith)
zip_with zero (suc to) set (c ∷ text) (s ∷ sets) e a b =
    let rest : zip text (replicate (to - 0) set ++ drop to sets) ≡ with_sets 0 to (λ old. set) (zip text sets) = zip_with zero to set text sets (omega arith) (omega arith) (omega arith) in
    let same : to - 0 ≡ to = omega arith in
    let more : suc to - 0 ≡ suc to = omega arith in
    rw more (ap (λ l. (c, set) ∷ l) (rw same at rest))
zip_with (suc from) zero set text sets e a b = absurd (omega arith)
zip_with (suc from) (suc to) set [] sets e a b = absurd (omega arith)
zip_with (suc from) (suc to) set (c ∷ text) [] e a b = absurd (omega arith)
zip_with (suc from) (suc to) set (c ∷ text) (s ∷ sets) e a b =
    let less : suc to - suc from ≡ to - from = omega arith in
    rw less (ap (λ l. (c, s) ∷ l) (zip_with from to set text sets (omega arith) (omega arith) (omega arith)))

-- a character's set
pub set_beside : (text : List Ch) (runs : List Run) (place : ℕ) → AreRising 0 runs (length text) → place < length text
    → option_map (λ c. c.1) (slice_get (zip text (sets_from 0 runs (length text))) place) ≡ Some (set_at (prefix_len (ends_by place) runs) runs)
set_beside text runs place h b =
    let same : place - 0 ≡ place = omega arith in
    let size : length text - 0 ≡ length text = omega arith in
    sym (slice_get-map (λ c. c.1) (zip text (sets_from 0 runs (length text))) place) ∙
    ap (λ l. slice_get l place) (seconds-zip text (sets_from 0 runs (length text)) (length-sets_from 0 runs (length text) h ∙ size)) ∙
    (rw same at (set_there 0 runs (length text) place h (omega arith) b))

-- a piece with a set given
pub given_beside : (from to : ℕ) (set : PropSet) (text : List Ch) (runs : List Run) → AreRising 0 runs (length text) → from ≤ to → to ≤ length text
    → zip text (sets_from 0 (runs_with 0 from to set (prefix_len (ends_by from) runs) (prefix_len (ends_by to) runs) runs) (length text)) ≡ with_sets from to (λ old. set) (zip text (sets_from 0 runs (length text)))
given_beside from to set text runs h a b =
    let same : from - 0 ≡ from = omega arith in
    let also : to - 0 ≡ to = omega arith in
    let size : length text - 0 ≡ length text = omega arith in
    let sets = (given_between 0 from to set runs (length text) h (omega arith) a b).1 in
    rw (rw (same, also) at sets) (zip_with from to set text (sets_from 0 runs (length text)) (length-sets_from 0 runs (length text) h ∙ size) a b)
