-- The list of a round, as the code finds and makes it.
use Rattle.std.proofs.Common.{◌≡◌, ℕ, zero, suc, ◌+◌, ◌<◌, Bool, true, false, not, ◌==◌, List, [], ◌∷◌, ◌++◌, map, filter, length, drop, get_or, slice_get, Option, Some, None, refl, ap, subst, sym, ◌∙◌, add-one, zero-add, drop-cons, cond, nat_lt, All, arith}
use Rattle.std.specs.Prelude.{find}
use Rattle.std.specs.List.{position, position_or_len, enumerate_from, range_with_len}
use Rattle.std.proofs.lemmas.List.{append-nil, drop_all}
use Rattle.std.proofs.lemmas.Bool.{ltb-true, ltb-false, eq-eqb, ne_eqb}
use Rattle.std.proofs.lemmas.List.Elements.{filter-append, filter_passes, All-head}
use Rattle.std.proofs.lemmas.Option.{same_Some}
use Rattle.plain_machine.specs.State.{State, Process}
use Rattle.plain_machine.specs.Items.{Waiting}
use Rattle.plain_machine.specs.Waits.{is_eligible, eligible, from_eligible, target_first, target_is_eligible}

-- THE NUMBERS OF THE PROCESSES
pub numbers : (k : ℕ) (xs : List Process) → map (λ x. x.0) (enumerate_from k xs) ≡ range_with_len k (length xs)
numbers k [] = refl
numbers k (x ∷ xs) = ap (λ rest. k ∷ rest) (numbers (k + 1) xs)

-- those that pass, but for the first of them
abbrev pub others : (test : ℕ → Bool) (first : ℕ) (numbers : List ℕ) → List ℕ
others test first numbers = filter (λ p. not (p == first)) (filter test numbers)

pub one_number_more : (a n : ℕ) → range_with_len a (suc n) ≡ range_with_len a n ++ (a + n) ∷ []
one_number_more a zero = ap (λ m. m ∷ []) (omega arith)
one_number_more a (suc n) = ap (λ rest. a ∷ rest) (one_number_more (a + 1) n ∙ ap (λ m. range_with_len (a + 1) n ++ m ∷ []) (omega arith))

pub found_is_first : {A : Type 0} (test : A → Bool) (xs : List A) → find test xs ≡ slice_get (filter test xs) 0
found_is_first test [] = refl
found_is_first test (x ∷ xs) = go (test x) (found_is_first test xs)
  where
    go : (passes : Bool) → find test xs ≡ slice_get (filter test xs) 0 → cond passes (Some x) (find test xs) ≡ slice_get (cond passes (x ∷ filter test xs) (filter test xs)) 0
    go true later = refl
    go false later = later

not_itself : (p : ℕ) → not (p == p) ≡ false
not_itself p = ap not (eq-eqb p p refl)

pub not_another : (p j : ℕ) → (p ≡ j → ⊥) → not (p == j) ≡ true
not_another p j h = ap not (ne_eqb p j h)

-- no number from k on is one below k
none_below : (test : ℕ → Bool) (j k n : ℕ) → j < k → others test j (range_with_len k n) ≡ filter test (range_with_len k n)
none_below test j k zero h = refl
none_below test j k (suc n) h = go (test k) (none_below test j (k + 1) n (omega arith))
  where
    go : (passes : Bool) → others test j (range_with_len (k + 1) n) ≡ filter test (range_with_len (k + 1) n) → filter (λ p. not (p == j)) (cond passes (k ∷ filter test (range_with_len (k + 1) n)) (filter test (range_with_len (k + 1) n))) ≡ cond passes (k ∷ filter test (range_with_len (k + 1) n)) (filter test (range_with_len (k + 1) n))
    go true more = rw (not_another k j (λ e. omega (arith, e))) (ap (λ rest. k ∷ rest) more)
    go false more = more

-- the first number that passes is none of the others
others_follow : (test : ℕ → Bool) (j k n : ℕ) → slice_get (filter test (range_with_len k n)) 0 ≡ Some j → others test j (range_with_len k n) ≡ drop 1 (filter test (range_with_len k n))
others_follow test j k zero h = refl
others_follow test j k (suc n) h = go (test k) h (others_follow test j (k + 1) n)
  where
    go : (passes : Bool) → slice_get (cond passes (k ∷ filter test (range_with_len (k + 1) n)) (filter test (range_with_len (k + 1) n))) 0 ≡ Some j → (slice_get (filter test (range_with_len (k + 1) n)) 0 ≡ Some j → others test j (range_with_len (k + 1) n) ≡ drop 1 (filter test (range_with_len (k + 1) n))) →
        filter (λ p. not (p == j)) (cond passes (k ∷ filter test (range_with_len (k + 1) n)) (filter test (range_with_len (k + 1) n))) ≡ drop 1 (cond passes (k ∷ filter test (range_with_len (k + 1) n)) (filter test (range_with_len (k + 1) n)))
    go true first more = let same : k ≡ j = same_Some k j first in let e : not (k == j) ≡ false = ap (λ m. not (k == m)) (sym same) ∙ not_itself k in rw e (none_below test j (k + 1) n (omega arith))
    go false first more = more first

-- WHAT THE CODE ASKS OF A ROUND
eligible_of_any : (s : State) (w : Waiting) → w.target ≡ None → eligible s w ≡ filter (is_eligible s w) (range_with_len 0 (length s.processes))
eligible_of_any s w none = ap (λ t. target_first t (filter (is_eligible s w) (map (λ x. x.0) (enumerate_from 0 s.processes)))) none ∙ ap (filter (is_eligible s w)) (numbers 0 s.processes)

eligible_of_target : (s : State) (w : Waiting) (t : ℕ) → w.target ≡ Some t → eligible s w ≡ t ∷ others (is_eligible s w) t (range_with_len 0 (length s.processes))
eligible_of_target s w t some = ap (λ o. target_first o (filter (is_eligible s w) (map (λ x. x.0) (enumerate_from 0 s.processes)))) some ∙ ap (λ all. t ∷ others (is_eligible s w) t all) (numbers 0 s.processes)

pub first_of_any : (s : State) (w : Waiting) → w.target ≡ None → find (is_eligible s w) (range_with_len 0 (length s.processes)) ≡ slice_get (eligible s w) 0
first_of_any s w none = found_is_first (is_eligible s w) (range_with_len 0 (length s.processes)) ∙ ap (λ all. slice_get all 0) (sym (eligible_of_any s w none))

pub first_is_target : (s : State) (w : Waiting) (t : ℕ) → w.target ≡ Some t → Some t ≡ slice_get (eligible s w) 0
first_is_target s w t some = ap (λ all. slice_get all 0) (sym (eligible_of_target s w t some))

pub others_of_round : (s : State) (w : Waiting) (first : ℕ) → slice_get (eligible s w) 0 ≡ Some first → others (is_eligible s w) first (range_with_len 0 (length s.processes)) ≡ drop 1 (eligible s w)
others_of_round s w first h = go w.target refl
  where
    go : (target : Option ℕ) → w.target ≡ target → others (is_eligible s w) first (range_with_len 0 (length s.processes)) ≡ drop 1 (eligible s w)
    go None e = others_follow (is_eligible s w) first 0 (length s.processes) (ap (λ all. slice_get all 0) (sym (eligible_of_any s w e)) ∙ h) ∙ ap (drop 1) (sym (eligible_of_any s w e))
    go (Some t) e =
        let same : t ≡ first = same_Some t first (first_is_target s w t e ∙ h) in
        ap (λ f. others (is_eligible s w) f (range_with_len 0 (length s.processes))) (sym same) ∙ ap (drop 1) (sym (eligible_of_target s w t e))

-- the list of a round grows by the next number, where that is one of the others
one_more : (test : ℕ → Bool) (first p : ℕ) → others test first (range_with_len 0 (p + 1)) ≡ others test first (range_with_len 0 p) ++ others test first (p ∷ [])
one_more test first p =
    ap (λ n. others test first (range_with_len 0 n)) (add-one p)
    ∙ ap (others test first) (one_number_more 0 p)
    ∙ ap (λ m. others test first (range_with_len 0 p ++ m ∷ [])) (zero-add p)
    ∙ ap (filter (λ q. not (q == first))) (filter-append test (range_with_len 0 p) (p ∷ []))
    ∙ filter-append (λ q. not (q == first)) (filter test (range_with_len 0 p)) (filter test (p ∷ []))

pub one_more_passes : (test : ℕ → Bool) (first p : ℕ) → (p ≡ first → ⊥) → test p ≡ true → others test first (range_with_len 0 p) ++ p ∷ [] ≡ others test first (range_with_len 0 (p + 1))
one_more_passes test first p other passes = sym (one_more test first p ∙ rw (passes, not_another p first other) refl)

none_more : (test : ℕ → Bool) (first p : ℕ) → others test first (p ∷ []) ≡ [] → others test first (range_with_len 0 p) ≡ others test first (range_with_len 0 (p + 1))
none_more test first p none = sym (one_more test first p ∙ ap (λ xs. others test first (range_with_len 0 p) ++ xs) none ∙ append-nil (others test first (range_with_len 0 p)))

pub none_more_fails : (test : ℕ → Bool) (first p : ℕ) → test p ≡ false → others test first (range_with_len 0 p) ≡ others test first (range_with_len 0 (p + 1))
none_more_fails test first p fails = none_more test first p (rw fails refl)

pub none_more_first : (test : ℕ → Bool) (first p : ℕ) → p ≡ first → others test first (range_with_len 0 p) ≡ others test first (range_with_len 0 (p + 1))
none_more_first test first p same = none_more test first p (go (test p))
  where
    itself : not (p == first) ≡ false
    itself = ap (λ q. not (p == q)) (sym same) ∙ not_itself p

    go : (passes : Bool) → filter (λ q. not (q == first)) (cond passes (p ∷ []) []) ≡ []
    go false = refl
    go true = rw itself refl

-- THE REST OF A ROUND
from_place : (s : State) (w : Waiting) (asking : List ℕ) → from_eligible s w asking ≡ drop (position_or_len (is_eligible s w) asking) asking
from_place s w [] = refl
from_place s w (p ∷ asking) = go (is_eligible s w p) (from_place s w asking)
  where
    go : (passes : Bool) → from_eligible s w asking ≡ drop (position_or_len (is_eligible s w) asking) asking → elim passes [ true ↦ p ∷ asking | false ↦ from_eligible s w asking ] ≡ drop (cond (not passes) (1 + position_or_len (is_eligible s w) asking) 0) (p ∷ asking)
    go true later = refl
    go false later = let e : suc (position_or_len (is_eligible s w) asking) ≡ 1 + position_or_len (is_eligible s w) asking = omega arith in later ∙ ap (λ n. drop n (p ∷ asking)) e

pub none_found : (s : State) (w : Waiting) (asking : List ℕ) → position (is_eligible s w) asking ≡ None → from_eligible s w asking ≡ []
none_found s w asking h = go (nat_lt (position_or_len (is_eligible s w) asking) (length asking)) refl h
  where
    go : (within : Bool) → nat_lt (position_or_len (is_eligible s w) asking) (length asking) ≡ within → cond within (Some (position_or_len (is_eligible s w) asking)) None ≡ None → from_eligible s w asking ≡ []
    go true e h = cc
    go false e h = from_place s w asking ∙ drop_all (position_or_len (is_eligible s w) asking) asking (ltb-false (position_or_len (is_eligible s w) asking) (length asking) e)

pub one_found : (s : State) (w : Waiting) (asking : List ℕ) (i : ℕ) → position (is_eligible s w) asking ≡ Some i → (i < length asking) × (from_eligible s w asking ≡ get_or asking i 0 ∷ drop (i + 1) asking)
one_found s w asking i h = go (nat_lt (position_or_len (is_eligible s w) asking) (length asking)) refl h
  where
    go : (within : Bool) → nat_lt (position_or_len (is_eligible s w) asking) (length asking) ≡ within → cond within (Some (position_or_len (is_eligible s w) asking)) None ≡ Some i → (i < length asking) × (from_eligible s w asking ≡ get_or asking i 0 ∷ drop (i + 1) asking)
    go false e h = cc
    go true e h =
        let same : position_or_len (is_eligible s w) asking ≡ i = same_Some (position_or_len (is_eligible s w) asking) i h in
        let within : i < length asking = subst (λ k. k < length asking) same (ltb-true (position_or_len (is_eligible s w) asking) (length asking) e) in
        (within, from_place s w asking ∙ ap (λ k. drop k asking) same ∙ drop-cons asking i 0 within ∙ ap (λ k. get_or asking i 0 ∷ drop k asking) (sym (add-one i)))

pub at_front : (s : State) (w : Waiting) (p : ℕ) (asking : List ℕ) → is_eligible s w p ≡ true → from_eligible s w (p ∷ asking) ≡ p ∷ asking
at_front s w p asking passes = let f : Bool → List ℕ = λ b. elim b [ true ↦ p ∷ asking | false ↦ from_eligible s w asking ] in ap f passes

-- THE TARGET
abbrev pub fits : (test : ℕ → Bool) → Option ℕ → Bool
fits test None = true
fits test (Some p) = test p

pub target_fits : (s : State) (w : Waiting) → target_is_eligible s w ≡ fits (is_eligible s w) w.target
target_fits s w = go w.target
  where
    go : (target : Option ℕ) → elim target as (λ x. Bool) [ None ↦ true | Some t ↦ is_eligible s w t ] ≡ fits (is_eligible s w) target
    go None = refl
    go (Some t) = refl

-- the first process of a round is eligible
pub first_is_eligible : (s : State) (w : Waiting) (p : ℕ) (rest : List ℕ) → target_is_eligible s w ≡ true → eligible s w ≡ p ∷ rest → is_eligible s w p ≡ true
first_is_eligible s w p rest fit first = go w.target refl
  where
    go : (target : Option ℕ) → w.target ≡ target → is_eligible s w p ≡ true
    go None e =
        let all : All (λ x. is_eligible s w x ≡ true) (p ∷ rest) = subst (All (λ x. is_eligible s w x ≡ true)) (sym (eligible_of_any s w e) ∙ first) (filter_passes (is_eligible s w) (range_with_len 0 (length s.processes))) in
        All-head (λ x. is_eligible s w x ≡ true) p rest all
    go (Some t) e =
        let same : t ≡ p = same_Some t p (first_is_target s w t e ∙ ap (λ all. slice_get all 0) first) in
        ap (is_eligible s w) (sym same) ∙ ap (fits (is_eligible s w)) (sym e) ∙ sym (target_fits s w) ∙ fit

pub first_left_is_eligible : (s : State) (w : Waiting) (p : ℕ) (rest asking : List ℕ) → from_eligible s w asking ≡ p ∷ rest → is_eligible s w p ≡ true
first_left_is_eligible s w p rest [] first = cc
first_left_is_eligible s w p rest (q ∷ asking) first = go (is_eligible s w q) refl first (first_left_is_eligible s w p rest asking)
  where
    go : (passes : Bool) → is_eligible s w q ≡ passes → elim passes [ true ↦ q ∷ asking | false ↦ from_eligible s w asking ] ≡ p ∷ rest → (from_eligible s w asking ≡ p ∷ rest → is_eligible s w p ≡ true) → is_eligible s w p ≡ true
    go true e same later = let is : q ≡ p = cc in ap (is_eligible s w) (sym is) ∙ e
    go false e same later = later same
