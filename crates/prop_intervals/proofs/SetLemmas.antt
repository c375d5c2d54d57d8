-- The sets that runs give the characters.
use Rattle.std.proofs.Common.{◌≡◌, ◌≢◌, ℕ, zero, suc, ◌+◌, ◌-◌, ◌≤◌, ◌<◌, Bool, true, false, List, [], ◌∷◌, ◌++◌, length, take, drop, refl, ap, sym, ◌∙◌, append-nil, append_assoc, length-append, subst, arith}
use Rattle.std.specs.Prelude.{nat_lt, ◌==◌, if◌then◌else◌, replicate, MatchBool, slice_get, Option, Some, not, unwrap_or}
use Rattle.std.proofs.lemmas.Bool.{eqb-true, lt-ltb, le-ltb, ltb-true, ltb-false, false≢true}
use Rattle.std.proofs.lemmas.List.{length-replicate, take-take, drop-drop, replicate_more, drop-append-le, take-append-le, take-replicate, drop-replicate, replicate-append-replicate}
use Rattle.std.proofs.Math.Seq.{take-append-add, drop-append-add}
use Rattle.text_model.specs.Properties.{PropSet, same_set}
use Rattle.prop_intervals.specs.Runs.{Run, size, sets_of, grown, shrunk, before, behind, in_front, glued, IsPartOfRun, IsRunAt, CanCut, AreApart, BeginsOther}
use Rattle.text_model.specs.PropertyQuestions.{first_where}
use Rattle.text_model.proofs.Lists.{drop_at, take_one_more}
use Rattle.text_model.proofs.Sameness.{same_set-sound, same_set-same}
use Rattle.text_model.proofs.Cases.{by_test}
use Rattle.prop_intervals.specs.Sets.{other_from, run_end}
use Rattle.prop_intervals.proofs.RunLemmas.{size-append, size-before, size-behind}

pub length-sets_of : (runs : List Run) → length (sets_of runs) ≡ size runs
length-sets_of [] = refl
length-sets_of (r ∷ runs) = let rest = length-sets_of runs in omega (arith, length-append (replicate r.1 r.0) (sets_of runs), length-replicate r.1 r.0)

-- a list behind a run, taken and dropped
take_within : {A : Type 0} (n m : ℕ) (x : A) (ys : List A) → n ≤ m → take n (replicate m x ++ ys) ≡ replicate n x
take_within n m x ys h = let l : n ≤ length (replicate m x) = (let e = length-replicate m x in omega arith) in take-append-le n (replicate m x) ys l ∙ take-replicate n m x h

take_past : {A : Type 0} (n m : ℕ) (x : A) (ys : List A) → m ≤ n → take n (replicate m x ++ ys) ≡ replicate m x ++ take (n - m) ys
take_past n m x ys h =
    let e : n ≡ length (replicate m x) + (n - m) = (let l = length-replicate m x in omega arith) in
    ap (λ k. take k (replicate m x ++ ys)) e ∙ take-append-add (replicate m x) ys (n - m)

drop_within : {A : Type 0} (n m : ℕ) (x : A) (ys : List A) → n ≤ m → drop n (replicate m x ++ ys) ≡ replicate (m - n) x ++ ys
drop_within n m x ys h = let l : n ≤ length (replicate m x) = (let e = length-replicate m x in omega arith) in drop-append-le n (replicate m x) ys l ∙ ap (λ s. s ++ ys) (drop-replicate n m x)

drop_past : {A : Type 0} (n m : ℕ) (x : A) (ys : List A) → m ≤ n → drop n (replicate m x ++ ys) ≡ drop (n - m) ys
drop_past n m x ys h =
    let e : n ≡ length (replicate m x) + (n - m) = (let l = length-replicate m x in omega arith) in
    ap (λ k. drop k (replicate m x ++ ys)) e ∙ drop-append-add (replicate m x) ys (n - m)

-- CUT
pub sets_of-before : (at : ℕ) (runs : List Run) → sets_of (before at runs) ≡ take at (sets_of runs)
sets_of-before zero [] = refl
sets_of-before (suc at) [] = refl
sets_of-before at (r ∷ runs) = by_test (λ g. sets_of g ≡ take at (replicate r.1 r.0 ++ sets_of runs)) (nat_lt at r.1) (if at == 0 then [] else (r.0, at) ∷ []) (r ∷ before (at - r.1) runs)
    (λ k. let here : at < r.1 = ltb-true at r.1 k in by_test (λ g. sets_of g ≡ take at (replicate r.1 r.0 ++ sets_of runs)) (at == 0) [] ((r.0, at) ∷ [])
    (λ e. rw (eqb-true at 0 e) refl)
    (λ e. append-nil (replicate at r.0) ∙ sym (take_within at r.1 r.0 (sets_of runs) (omega arith))))
    (λ k. let past : r.1 ≤ at = ltb-false at r.1 k in ap (λ s. replicate r.1 r.0 ++ s) (sets_of-before (at - r.1) runs) ∙ sym (take_past at r.1 r.0 (sets_of runs) past))

pub sets_of-behind : (at : ℕ) (runs : List Run) → sets_of (behind at runs) ≡ drop at (sets_of runs)
sets_of-behind zero [] = refl
sets_of-behind (suc at) [] = refl
sets_of-behind at (r ∷ runs) = by_test (λ g. sets_of g ≡ drop at (replicate r.1 r.0 ++ sets_of runs)) (nat_lt at r.1) ((r.0, r.1 - at) ∷ runs) (behind (at - r.1) runs)
    (λ k. let here : at < r.1 = ltb-true at r.1 k in sym (drop_within at r.1 r.0 (sets_of runs) (omega arith)))
    (λ k. let past : r.1 ≤ at = ltb-false at r.1 k in sets_of-behind (at - r.1) runs ∙ sym (drop_past at r.1 r.0 (sets_of runs) past))

pub size-cut : (at : ℕ) (runs : List Run) → size (before at runs) + size (behind at runs) ≤ size runs
size-cut at [] = omega arith
size-cut at (r ∷ runs) = go (size-cut (at - r.1) runs) (nat_lt at r.1) refl
  where
    go : size (before (at - r.1) runs) + size (behind (at - r.1) runs) ≤ size runs → (b : Bool) → nat_lt at r.1 ≡ b →
        size (if b then (if at == 0 then [] else (r.0, at) ∷ []) else r ∷ before (at - r.1) runs) + size (if b then (r.0, r.1 - at) ∷ runs else behind (at - r.1) runs) ≤ r.1 + size runs
    go ih true k = let here : at < r.1 = ltb-true at r.1 k in by_test (λ g. size g + ((r.1 - at) + size runs) ≤ r.1 + size runs) (at == 0) [] ((r.0, at) ∷ []) (λ e. omega arith) (λ e. omega arith)
    go ih false k = omega arith

pub can_cut-before : (place at : ℕ) (runs : List Run) (s : PropSet) → CanCut runs place s → CanCut (before at runs) place s
can_cut-before place at [] s h = tt
can_cut-before place at (r ∷ runs) s h = by_test (λ g. CanCut g place s) (nat_lt at r.1) (if at == 0 then [] else (r.0, at) ∷ []) (r ∷ before (at - r.1) runs)
    (λ k. let here : at < r.1 = ltb-true at r.1 k in by_test (λ g. CanCut g place s) (at == 0) [] ((r.0, at) ∷ []) (λ e. tt) (λ e. in_part here (nat_lt place at) (nat_lt place r.1) refl refl h))
    (λ k. rest (can_cut-before (place - r.1) (at - r.1) runs s) (nat_lt place r.1) h)
  where
    in_part : at < r.1 → (a b : Bool) → nat_lt place at ≡ a → nat_lt place r.1 ≡ b → MatchBool b (0 < place → r.0 ≡ s) (CanCut runs (place - r.1) s) → MatchBool a (0 < place → r.0 ≡ s) (Unit {0})
    in_part l true true p q g = g
    in_part l true false p q g = let x = ltb-true place at p in let y = ltb-false place r.1 q in absurd (omega arith)
    in_part l false b p q g = tt

    rest : (CanCut runs (place - r.1) s → CanCut (before (at - r.1) runs) (place - r.1) s) → (b : Bool) → MatchBool b (0 < place → r.0 ≡ s) (CanCut runs (place - r.1) s) → MatchBool b (0 < place → r.0 ≡ s) (CanCut (before (at - r.1) runs) (place - r.1) s)
    rest ih true g = g
    rest ih false g = ih g

-- APART
begins-before : (set : PropSet) (at : ℕ) (runs : List Run) → BeginsOther set runs → BeginsOther set (before at runs)
begins-before set at [] h = tt
begins-before set at (r ∷ runs) h = by_test (λ g. BeginsOther set g) (nat_lt at r.1) (if at == 0 then [] else (r.0, at) ∷ []) (r ∷ before (at - r.1) runs)
    (λ k. by_test (λ g. BeginsOther set g) (at == 0) [] ((r.0, at) ∷ []) (λ e. tt) (λ e. h)) (λ k. h)

pub apart-before : (at : ℕ) (runs : List Run) → AreApart runs → AreApart (before at runs)
apart-before at [] h = tt
apart-before at (r ∷ runs) h = by_test (λ g. AreApart g) (nat_lt at r.1) (if at == 0 then [] else (r.0, at) ∷ []) (r ∷ before (at - r.1) runs)
    (λ k. by_test (λ g. AreApart g) (at == 0) [] ((r.0, at) ∷ []) (λ e. tt) (λ e. (above at e, tt, tt)))
    (λ k. (h.0, begins-before r.0 (at - r.1) runs h.1, apart-before (at - r.1) runs h.2))
  where
    above : (n : ℕ) → (n == 0) ≡ false → 0 < n
    above zero e = cc
    above (suc n) e = omega arith

pub apart-behind : (at : ℕ) (runs : List Run) → AreApart runs → AreApart (behind at runs)
apart-behind at [] h = tt
apart-behind at (r ∷ runs) h = by_test (λ g. AreApart g) (nat_lt at r.1) ((r.0, r.1 - at) ∷ runs) (behind (at - r.1) runs)
    (λ k. let here : at < r.1 = ltb-true at r.1 k in (omega arith, h.1, h.2))
    (λ k. apart-behind (at - r.1) runs h.2)

pub apart-back : (xs ys : List Run) → AreApart (xs ++ ys) → AreApart ys
apart-back [] ys h = h
apart-back (x ∷ xs) ys h = apart-back xs ys h.2

-- GLUED
sets_of-in_front : (r : Run) (runs : List Run) → sets_of (in_front r runs) ≡ replicate r.1 r.0 ++ sets_of runs
sets_of-in_front r [] = refl
sets_of-in_front r (q ∷ runs) = by_test (λ g. sets_of g ≡ replicate r.1 r.0 ++ (replicate q.1 q.0 ++ sets_of runs)) (same_set r.0 q.0) ((r.0, r.1 + q.1) ∷ runs) (r ∷ q ∷ runs)
    (λ k. let e : r.0 ≡ q.0 = same_set-sound r.0 q.0 k in
    ap (λ s. s ++ sets_of runs) (sym (replicate-append-replicate r.1 q.1 r.0)) ∙ append_assoc (replicate r.1 r.0) (replicate q.1 r.0) (sets_of runs) ∙ ap (λ s. replicate r.1 r.0 ++ (replicate q.1 s ++ sets_of runs)) e)
    (λ k. refl)

pub sets_of-glued : (xs ys : List Run) → sets_of (glued xs ys) ≡ sets_of xs ++ sets_of ys
sets_of-glued [] ys = refl
sets_of-glued (x ∷ []) ys = sets_of-in_front x ys ∙ ap (λ s. s ++ sets_of ys) (sym (append-nil (replicate x.1 x.0)))
sets_of-glued (x ∷ w ∷ xs) ys = ap (λ s. replicate x.1 x.0 ++ s) (sets_of-glued (w ∷ xs) ys) ∙ sym (append_assoc (replicate x.1 x.0) (sets_of (w ∷ xs)) (sets_of ys))

apart-in_front : (r : Run) (runs : List Run) → 0 < r.1 → AreApart runs → AreApart (in_front r runs)
apart-in_front r [] h k = (h, tt, tt)
apart-in_front r (q ∷ runs) h k = by_test (λ g. AreApart g) (same_set r.0 q.0) ((r.0, r.1 + q.1) ∷ runs) (r ∷ q ∷ runs)
    (λ e. (omega arith, subst (λ s. BeginsOther s runs) (sym (same_set-sound r.0 q.0 e)) k.1, k.2))
    (λ e. (h, e, k))

begins-glued : (set : PropSet) (x : Run) (xs ys : List Run) → same_set set x.0 ≡ false → BeginsOther set (glued (x ∷ xs) ys)
begins-glued set x [] [] h = h
begins-glued set x [] (y ∷ ys) h = by_test (λ g. BeginsOther set g) (same_set x.0 y.0) ((x.0, x.1 + y.1) ∷ ys) (x ∷ y ∷ ys) (λ e. h) (λ e. h)
begins-glued set x (w ∷ xs) ys h = h

pub apart-glued : (xs ys : List Run) → AreApart xs → AreApart ys → AreApart (glued xs ys)
apart-glued [] ys h k = k
apart-glued (x ∷ []) ys h k = apart-in_front x ys h.0 k
apart-glued (x ∷ w ∷ xs) ys h k = (h.0, begins-glued x.0 w xs ys h.1, apart-glued (w ∷ xs) ys h.2 k)

pub size-glued : (xs ys : List Run) → size (glued xs ys) ≡ size xs + size ys
size-glued xs ys = omega (arith, length-sets_of (glued xs ys), length-sets_of xs, length-sets_of ys, ap length (sets_of-glued xs ys), length-append (sets_of xs) (sets_of ys))

-- the runs from one place to another replaced
pub spliced : (tree middle : List Run) (from to : ℕ) → from ≤ to → sets_of (glued (glued (before from (before to tree)) middle) (behind to tree)) ≡ take from (sets_of tree) ++ (sets_of middle ++ drop to (sets_of tree))
spliced tree middle from to h =
    let front : sets_of (before from (before to tree)) ≡ take from (sets_of tree) = sets_of-before from (before to tree) ∙ ap (take from) (sets_of-before to tree) ∙ take-take from to (sets_of tree) h in
    sets_of-glued (glued (before from (before to tree)) middle) (behind to tree)
    ∙ ap (λ s. s ++ sets_of (behind to tree)) (sets_of-glued (before from (before to tree)) middle ∙ ap (λ s. s ++ sets_of middle) front)
    ∙ ap (λ s. (take from (sets_of tree) ++ sets_of middle) ++ s) (sets_of-behind to tree)
    ∙ append_assoc (take from (sets_of tree)) (sets_of middle) (drop to (sets_of tree))

pub ruleset cut_twice = (can_cut-before, size-before, size-behind, size-glued, apart-before, apart-behind, apart-glued)

-- THE RUN AT A PLACE
-- from a place on: what is left of the run there, and then the others
pub drop_run : (front : List Run) (set : PropSet) (n : ℕ) (back : List Run) (place : ℕ) → size front ≤ place → place < size front + n →
    drop place (sets_of (front ++ (set, n) ∷ back)) ≡ replicate (size front + n - place) set ++ sets_of back
drop_run [] set n back place h k = let e : size [] + n - place ≡ n - place = omega arith in drop_within place n set (sets_of back) (omega arith) ∙ ap (λ i. replicate i set ++ sets_of back) (sym e)
drop_run (x ∷ front) set n back place h k =
    let e : size front + n - (place - x.1) ≡ (x.1 + size front) + n - place = omega arith in
    drop_past place x.1 x.0 (sets_of (front ++ (set, n) ∷ back)) (omega arith) ∙ drop_run front set n back (place - x.1) (omega arith) (omega arith) ∙ ap (λ i. replicate i set ++ sets_of back) e

pub drop_found : (runs : List Run) (place : ℕ) (set : PropSet) (start end : ℕ) (h : IsRunAt runs place set start end) → drop place (sets_of runs) ≡ replicate (end - place) set ++ sets_of h.back
drop_found runs place set start end h =
    let a = h.start_is in let s = h.starts in let t = h.ends in
    let e : size h.front + (end - start) - place ≡ end - place = omega arith in
    ap (λ r. drop place (sets_of r)) h.runs_are ∙ drop_run h.front set (end - start) h.back place (omega arith) (omega arith) ∙ ap (λ i. replicate i set ++ sets_of h.back) e

-- a set stands at a place, unless the place is the end
abbrev SetAt : List Run → (place : ℕ) → PropSet → Type 0
SetAt [] place set = Unit {0}
SetAt (r ∷ runs) place set = MatchBool (nat_lt place r.1) (r.0 ≡ set) (SetAt runs (place - r.1) set)

set_at-front : (front : List Run) (set : PropSet) (n : ℕ) (back : List Run) (place : ℕ) → size front ≤ place → place < size front + n → SetAt (front ++ (set, n) ∷ back) place set
set_at-front [] set n back place h k = let t : nat_lt place n ≡ true = lt-ltb place n (omega arith) in rw t refl
set_at-front (x ∷ front) set n back place h k = let t : nat_lt place x.1 ≡ false = le-ltb place x.1 (omega arith) in rw t (set_at-front front set n back (place - x.1) (omega arith) (omega arith))

-- the set found at a place stands there
pub set_at-found : (runs : List Run) (place : ℕ) (set : PropSet) (start end : ℕ) → IsRunAt runs place set start end → SetAt runs place set
set_at-found runs place set start end h =
    let a = h.start_is in let s = h.starts in let t = h.ends in
    rw h.runs_are (set_at-front h.front set (end - start) h.back place (omega arith) (omega arith))

-- so a run can be cut there with it
can_cut-set : (runs : List Run) (place : ℕ) (set : PropSet) → SetAt runs place set → CanCut runs place set
can_cut-set [] place set h = tt
can_cut-set (r ∷ runs) place set h = go (can_cut-set runs (place - r.1) set) (nat_lt place r.1) h
  where
    go : (SetAt runs (place - r.1) set → CanCut runs (place - r.1) set) → (b : Bool) → MatchBool b (r.0 ≡ set) (SetAt runs (place - r.1) set) → MatchBool b (0 < place → r.0 ≡ set) (CanCut runs (place - r.1) set)
    go ih true e = λ inside. e
    go ih false k = ih k

pub can_cut-found : (runs : List Run) (place : ℕ) (set : PropSet) (start end : ℕ) → IsRunAt runs place set start end → CanCut runs place set
can_cut-found runs place set start end h = can_cut-set runs place set (set_at-found runs place set start end h)

-- where a run starts, and behind the last, none is cut
can_cut-front : (front : List Run) (set other : PropSet) (n : ℕ) (back : List Run) (place : ℕ) → place ≡ size front → 0 < n → CanCut (front ++ (set, n) ∷ back) place other
can_cut-front [] set other n back place h k = let t : nat_lt place n ≡ true = lt-ltb place n (omega arith) in rw t (λ inside. absurd (omega (arith, inside, h)))
can_cut-front (x ∷ front) set other n back place h k = let t : nat_lt place x.1 ≡ false = le-ltb place x.1 (omega arith) in rw t (can_cut-front front set other n back (place - x.1) (omega arith) k)

pub can_cut-start : (runs : List Run) (place : ℕ) (set other : PropSet) (start end : ℕ) → IsRunAt runs place set start end → place ≤ start → CanCut runs place other
can_cut-start runs place set other start end h k =
    let a = h.start_is in let s = h.starts in let t = h.ends in
    rw h.runs_are (can_cut-front h.front set other (end - start) h.back place (omega arith) (omega arith))

pub can_cut-end : (runs : List Run) (place : ℕ) (set : PropSet) → size runs ≤ place → CanCut runs place set
can_cut-end [] place set h = tt
can_cut-end (x ∷ runs) place set h = let t : nat_lt place x.1 ≡ false = le-ltb place x.1 (omega arith) in rw t (can_cut-end runs (place - x.1) set (omega arith))

head_dropped : {A : Type 0} (xs : List A) (i : ℕ) (x : A) (ys : List A) → drop i xs ≡ x ∷ ys → slice_get xs i ≡ Some x
head_dropped [] zero x ys h = cc
head_dropped [] (suc i) x ys h = cc
head_dropped (w ∷ xs) zero x ys h = cc
head_dropped (w ∷ xs) (suc i) x ys h = head_dropped xs i x ys h

some_left : {A : Type 0} (n : ℕ) (x : A) → 0 < n → replicate n x ≡ x ∷ replicate (n - 1) x
some_left zero x h = absurd (omega arith)
some_left (suc n) x h = let e : suc n - 1 ≡ n = omega arith in rw e refl

-- from a place on: the set there, then what else is left of the run, and then the others
pub rest_found : (runs : List Run) (place : ℕ) (set : PropSet) (start end : ℕ) (h : IsRunAt runs place set start end) → drop place (sets_of runs) ≡ set ∷ (replicate (end - place - 1) set ++ sets_of h.back)
rest_found runs place set start end h =
    let t = h.ends in
    drop_found runs place set start end h ∙ ap (λ s. s ++ sets_of h.back) (some_left (end - place) set (omega arith))

pub get_found : (runs : List Run) (place : ℕ) (set : PropSet) (start end : ℕ) → IsRunAt runs place set start end → slice_get (sets_of runs) place ≡ Some set
get_found runs place set start end h = head_dropped (sets_of runs) place set _ (rest_found runs place set start end h)

-- THE END OF A RUN

first_here : {A : Type 0} (test : A → Bool) (place : ℕ) (x : A) (xs : List A) → test x ≡ true → first_where test place (x ∷ xs) ≡ Some place
first_here test place x xs h = let f : Bool → Option ℕ = λ b. elim b [ true ↦ Some place | false ↦ first_where test (place + 1) xs ] in ap f h

first_later : {A : Type 0} (test : A → Bool) (place : ℕ) (x : A) (xs : List A) → test x ≡ false → first_where test place (x ∷ xs) ≡ first_where test (place + 1) xs
first_later test place x xs h = let f : Bool → Option ℕ = λ b. elim b [ true ↦ Some place | false ↦ first_where test (place + 1) xs ] in ap f h

other_at : (set s : PropSet) (place : ℕ) (more : List PropSet) (end : ℕ) → same_set set s ≡ false → other_from set place (s ∷ more) end ≡ place
other_at set s place more end k = ap (λ o. unwrap_or o end) (first_here (λ t. not (same_set set t)) place s more (ap not k))

other_past : (set s : PropSet) (place : ℕ) (more : List PropSet) (end : ℕ) → same_set set s ≡ true → other_from set place (s ∷ more) end ≡ other_from set (place + 1) more end
other_past set s place more end k = ap (λ o. unwrap_or o end) (first_later (λ t. not (same_set set t)) place s more (ap not k))

run_end_is : (set : PropSet) (place : ℕ) (more sets : List PropSet) → drop place sets ≡ set ∷ more → run_end place sets ≡ other_from set (place + 1) more (length sets)
run_end_is set place more sets h = let f : List PropSet → ℕ = λ l. elim l [ [] ↦ place | s ∷ rest ↦ other_from s (place + 1) rest (length sets) ] in ap f h

other_skip : (set : PropSet) (n place : ℕ) (sets : List PropSet) (end : ℕ) → other_from set place (replicate n set ++ sets) end ≡ other_from set (place + n) sets end
other_skip set zero place sets end = let e : place + 0 ≡ place = omega arith in ap (λ p. other_from set p sets end) (sym e)
other_skip set (suc n) place sets end =
    let e : place + 1 + n ≡ place + suc n = omega arith in
    other_past set set place (replicate n set ++ sets) end (same_set-same set) ∙ other_skip set n (place + 1) sets end ∙ ap (λ p. other_from set p sets end) e

other_behind : (set : PropSet) (back : List Run) (place end : ℕ) → AreApart back → BeginsOther set back → (size back ≡ 0 → end ≡ place) → other_from set place (sets_of back) end ≡ place
other_behind set [] place end h k e = e refl
other_behind set (r ∷ back) place end h k e =
    ap (λ l. other_from set place (l ++ sets_of back) end) (some_left r.1 r.0 h.0) ∙ other_at set r.0 place (replicate (r.1 - 1) r.0 ++ sets_of back) end k

pub run_end_found : (runs : List Run) (place : ℕ) (set : PropSet) (start end : ℕ) → AreApart runs → IsRunAt runs place set start end → end ≡ run_end place (sets_of runs)
run_end_found runs place set start end apart h =
    let a = h.start_is in let s = h.starts in let t = h.ends in
    let parts : AreApart ((set, end - start) ∷ h.back) = apart-back h.front _ (subst AreApart h.runs_are apart) in
    let p : place + 1 + (end - place - 1) ≡ end = omega arith in
    let whole : length (sets_of runs) ≡ size h.front + ((end - start) + size h.back) = length-sets_of runs ∙ ap size h.runs_are ∙ size-append h.front ((set, end - start) ∷ h.back) in
    sym (run_end_is set place _ (sets_of runs) (rest_found runs place set start end h)
    ∙ other_skip set (end - place - 1) (place + 1) (sets_of h.back) (length (sets_of runs))
    ∙ ap (λ q. other_from set q (sets_of h.back) (length (sets_of runs))) p
    ∙ other_behind set h.back end (length (sets_of runs)) parts.2 parts.1 (λ e. omega arith))

-- the sets of a run are one, and behind it stands another set or none
pub in_run : (runs : List Run) (place other : ℕ) (set : PropSet) (start end : ℕ) → IsRunAt runs place set start end → place ≤ other → other < end → slice_get (sets_of runs) other ≡ slice_get (sets_of runs) place
in_run runs place other set start end h l m =
    let s = h.starts in
    let there : IsRunAt runs other set start end = record { front = h.front; back = h.back; runs_are = h.runs_are; start_is = h.start_is; starts = omega arith; ends = m } in
    get_found runs other set start end there ∙ sym (get_found runs place set start end h)

begins_other : (set : PropSet) (back : List Run) (more : List PropSet) → AreApart back → BeginsOther set back → sets_of back ≢ set ∷ more
begins_other set [] more h k e = cc
begins_other set (r ∷ back) more h k e =
    let first : r.0 ∷ (replicate (r.1 - 1) r.0 ++ sets_of back) ≡ set ∷ more = sym (ap (λ l. l ++ sets_of back) (some_left r.1 r.0 h.0)) ∙ e in
    let same : r.0 ≡ set = cc in
    false≢true (sym k ∙ ap (same_set set) same ∙ same_set-same set)

pub behind_run : (runs : List Run) (place : ℕ) (set : PropSet) (start end : ℕ) → AreApart runs → IsRunAt runs place set start end → slice_get (sets_of runs) end ≢ slice_get (sets_of runs) place
behind_run runs place set start end apart h e =
    let t = h.ends in
    let sets = sets_of runs in
    let parts : AreApart ((set, end - start) ∷ h.back) = apart-back h.front _ (subst AreApart h.runs_are apart) in
    let none : end - place - (end - place) ≡ 0 = omega arith in
    let sum : place + (end - place) ≡ end = omega arith in
    let rest : drop end sets ≡ sets_of h.back =
    ap (λ n. drop n sets) (sym sum) ∙ sym (drop-drop (end - place) place sets) ∙ ap (drop (end - place)) (drop_found runs place set start end h)
    ∙ drop_within (end - place) (end - place) set (sets_of h.back) (omega arith) ∙ ap (λ n. replicate n set ++ sets_of h.back) none in
    begins_other set h.back (drop (end + 1) sets) parts.2 parts.1 (sym rest ∙ drop_at sets end set (e ∙ get_found runs place set start end h))

-- ALL OF ONE SET

pub run_start : (set : PropSet) (sets : List PropSet) (i : ℕ) → slice_get sets i ≡ Some set → take (i + 1) sets ≡ take i sets ++ replicate (i + 1 - i) set
run_start set sets i at = let e : i + 1 - i ≡ 1 = omega arith in take_one_more sets i set at ∙ ap (λ n. take i sets ++ replicate n set) (sym e)

pub run_more : (set s : PropSet) (sets : List PropSet) (i j : ℕ) → i ≤ j → slice_get sets j ≡ Some s → same_set set s ≡ true → take j sets ≡ take i sets ++ replicate (j - i) set → take (j + 1) sets ≡ take i sets ++ replicate (j + 1 - i) set
run_more set s sets i j l at k h =
    let e : set ≡ s = same_set-sound set s k in
    let w : j - i + 1 ≡ j + 1 - i = omega arith in
    take_one_more sets j s at ∙ ap (λ t. t ++ s ∷ []) h ∙ append_assoc (take i sets) (replicate (j - i) set) (s ∷ []) ∙ ap (λ x. take i sets ++ (replicate (j - i) set ++ x ∷ [])) (sym e)
    ∙ ap (λ t. take i sets ++ t) (replicate_more (j - i) set ∙ ap (λ n. replicate n set) w)

-- A LONGER RUN
begins-grown : (set : PropSet) (at n : ℕ) (runs : List Run) → BeginsOther set runs → BeginsOther set (grown at n runs)
begins-grown set at n [] h = tt
begins-grown set at n (r ∷ runs) h = by_test (λ g. BeginsOther set g) (nat_lt at r.1) ((r.0, r.1 + n) ∷ runs) (r ∷ grown (at - r.1) n runs) (λ k. h) (λ k. h)

pub apart-grown : (at n : ℕ) (runs : List Run) → AreApart runs → AreApart (grown at n runs)
apart-grown at n [] h = tt
apart-grown at n (r ∷ runs) h = by_test (λ g. AreApart g) (nat_lt at r.1) ((r.0, r.1 + n) ∷ runs) (r ∷ grown (at - r.1) n runs)
    (λ k. let p = h.0 in (omega arith, h.1, h.2)) (λ k. (h.0, begins-grown r.0 (at - r.1) n runs h.1, apart-grown (at - r.1) n runs h.2))

pub sets_of-grown : (at n : ℕ) (runs : List Run) (set : PropSet) → at < size runs → SetAt runs at set → sets_of (grown at n runs) ≡ take at (sets_of runs) ++ (replicate n set ++ drop at (sets_of runs))
sets_of-grown at n [] set h k = absurd (omega arith)
sets_of-grown at n (r ∷ runs) set h k = go (sets_of-grown (at - r.1) n runs set) (nat_lt at r.1) refl k
  where
    go : (at - r.1 < size runs → SetAt runs (at - r.1) set → sets_of (grown (at - r.1) n runs) ≡ take (at - r.1) (sets_of runs) ++ (replicate n set ++ drop (at - r.1) (sets_of runs))) → (b : Bool) → nat_lt at r.1 ≡ b →
        MatchBool b (r.0 ≡ set) (SetAt runs (at - r.1) set) →
        sets_of (if b then (r.0, r.1 + n) ∷ runs else r ∷ grown (at - r.1) n runs) ≡ take at (replicate r.1 r.0 ++ sets_of runs) ++ (replicate n set ++ drop at (replicate r.1 r.0 ++ sets_of runs))
    go ih true t e =
        let here : at < r.1 = ltb-true at r.1 t in
        let w : r.1 + n ≡ at + (n + (r.1 - at)) = omega arith in
        rw (take_within at r.1 r.0 (sets_of runs) (omega arith), drop_within at r.1 r.0 (sets_of runs) (omega arith), ← e, w, ← replicate-append-replicate at (n + (r.1 - at)) r.0, ← replicate-append-replicate n (r.1 - at) r.0)
        (append_assoc (replicate at r.0) (replicate n r.0 ++ replicate (r.1 - at) r.0) (sets_of runs) ∙ ap (λ x. replicate at r.0 ++ x) (append_assoc (replicate n r.0) (replicate (r.1 - at) r.0) (sets_of runs)))
    go ih false t e =
        let past : r.1 ≤ at = ltb-false at r.1 t in
        rw (take_past at r.1 r.0 (sets_of runs) past, drop_past at r.1 r.0 (sets_of runs) past)
        (ap (λ x. replicate r.1 r.0 ++ x) (ih (omega arith) e) ∙ sym (append_assoc (replicate r.1 r.0) (take (at - r.1) (sets_of runs)) (replicate n set ++ drop (at - r.1) (sets_of runs))))

-- the same, said at the end of the run's part in front
pub grown_behind : (sets : List PropSet) (place n : ℕ) (set : PropSet) → slice_get sets place ≡ Some set →
    take place sets ++ (replicate n set ++ drop place sets) ≡ take (place + 1) sets ++ (replicate n set ++ drop (place + 1) sets)
grown_behind [] place n set h = cc
grown_behind (s ∷ sets) zero n set h =
    let e : s ≡ set = cc in
    rw e (sym (append_assoc (replicate n set) (set ∷ []) sets) ∙ ap (λ r. r ++ sets) (replicate_more n set ∙ one_more n set))
  where
    one_more : (n : ℕ) (set : PropSet) → replicate (n + 1) set ≡ set ∷ replicate n set
    one_more n set = let e : n + 1 ≡ suc n = omega arith in rw e refl
grown_behind (s ∷ sets) (suc place) n set h =
    let e : suc place + 1 ≡ suc (place + 1) = omega arith in
    rw e (ap (λ r. s ∷ r) (grown_behind sets place n set h))

-- A SHORTER RUN
begins-shrunk : (set : PropSet) (at n : ℕ) (runs : List Run) → BeginsOther set runs → BeginsOther set (shrunk at n runs)
begins-shrunk set at n [] h = tt
begins-shrunk set at n (r ∷ runs) h = by_test (λ g. BeginsOther set g) (nat_lt at r.1) ((r.0, r.1 - n) ∷ runs) (r ∷ shrunk (at - r.1) n runs) (λ k. h) (λ k. h)

pub apart-shrunk : (at n : ℕ) (runs : List Run) → IsPartOfRun at n runs → AreApart runs → AreApart (shrunk at n runs)
apart-shrunk at n [] k h = tt
apart-shrunk at n (r ∷ runs) k h = go (λ e. apart-shrunk (at - r.1) n runs e h.2) (nat_lt at r.1) k
  where
    go : (IsPartOfRun (at - r.1) n runs → AreApart (shrunk (at - r.1) n runs)) → (b : Bool) → MatchBool b ((at + n ≤ r.1) × (n < r.1)) (IsPartOfRun (at - r.1) n runs) →
        AreApart (if b then (r.0, r.1 - n) ∷ runs else r ∷ shrunk (at - r.1) n runs)
    go ih true e = let own = e.1 in (omega arith, h.1, h.2)
    go ih false e = (h.0, begins-shrunk r.0 (at - r.1) n runs h.1, ih e)

pub sets_of-shrunk : (at n : ℕ) (runs : List Run) → IsPartOfRun at n runs → sets_of (shrunk at n runs) ≡ take at (sets_of runs) ++ drop (at + n) (sets_of runs)
sets_of-shrunk at n [] k = absurd k
sets_of-shrunk at n (r ∷ runs) k = go (sets_of-shrunk (at - r.1) n runs) (nat_lt at r.1) refl k
  where
    go : (IsPartOfRun (at - r.1) n runs → sets_of (shrunk (at - r.1) n runs) ≡ take (at - r.1) (sets_of runs) ++ drop (at - r.1 + n) (sets_of runs)) → (b : Bool) → nat_lt at r.1 ≡ b →
        MatchBool b ((at + n ≤ r.1) × (n < r.1)) (IsPartOfRun (at - r.1) n runs) →
        sets_of (if b then (r.0, r.1 - n) ∷ runs else r ∷ shrunk (at - r.1) n runs) ≡ take at (replicate r.1 r.0 ++ sets_of runs) ++ drop (at + n) (replicate r.1 r.0 ++ sets_of runs)
    go ih true t e =
        let own = e.0 in
        let w : r.1 - n ≡ at + (r.1 - (at + n)) = omega arith in
        rw (take_within at r.1 r.0 (sets_of runs) (omega arith), drop_within (at + n) r.1 r.0 (sets_of runs) e.0, w, ← replicate-append-replicate at (r.1 - (at + n)) r.0)
        (append_assoc (replicate at r.0) (replicate (r.1 - (at + n)) r.0) (sets_of runs))
    go ih false t e =
        let past : r.1 ≤ at = ltb-false at r.1 t in
        let far : at + n - r.1 ≡ at - r.1 + n = omega arith in
        rw (take_past at r.1 r.0 (sets_of runs) past, drop_past (at + n) r.1 r.0 (sets_of runs) (omega arith), far)
        (ap (λ x. replicate r.1 r.0 ++ x) (ih e) ∙ sym (append_assoc (replicate r.1 r.0) (take (at - r.1) (sets_of runs)) (drop (at - r.1 + n) (sets_of runs))))

part-run : (front : List Run) (set : PropSet) (m : ℕ) (back : List Run) (place n : ℕ) → size front ≤ place → place < size front + m → place + n ≤ size front + m → n < m → IsPartOfRun place n (front ++ (set, m) ∷ back)
part-run [] set m back place n h i j k = let t : nat_lt place m ≡ true = lt-ltb place m (omega arith) in rw t (omega arith, k)
part-run (x ∷ front) set m back place n h i j k = let t : nat_lt place x.1 ≡ false = le-ltb place x.1 (omega arith) in rw t (part-run front set m back (place - x.1) n (omega arith) (omega arith) (omega arith) k)

-- a part of the run found at a place
pub part_found : (runs : List Run) (place n : ℕ) (set : PropSet) (start end : ℕ) → IsRunAt runs place set start end → place + n ≤ end → n < end - start → IsPartOfRun place n runs
part_found runs place n set start end h i j =
    let a = h.start_is in let s = h.starts in let t = h.ends in
    rw h.runs_are (part-run h.front set (end - start) h.back place n (omega arith) (omega arith) (omega arith) j)
