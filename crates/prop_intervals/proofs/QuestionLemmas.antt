-- The places between neighbours that differ.
use Rattle.std.proofs.Common.{◌≡◌, ℕ, zero, suc, ◌+◌, ◌-◌, ◌≤◌, ◌<◌, Bool, true, false, List, [], ◌∷◌, ◌++◌, length, map, take, drop, refl, ap, sym, ◌∙◌, arith}
use Rattle.std.specs.Prelude.{◌&&◌, nat_lt, filter, replicate, Option, Some, None}
use Rattle.std.proofs.lemmas.Bool.{lt-ltb, le-ltb}
use Rattle.std.proofs.lemmas.List.{drop-drop, drop_at, length-replicate, take-append-le, take-replicate}
use Rattle.text_model.specs.Properties.{PropSet, get, same_set, same_option, same_value}
use Rattle.text_model.specs.PropertyQuestions.{first, last, unless_same, changes_after, changes, between, next_change, previous_change}
use Rattle.text_model.proofs.Sameness.{same_set-sound, same_set-same, same_option-sound, same_option-same}
use Rattle.text_model.proofs.Cases.{if_true, if_false}
use Rattle.prop_intervals.specs.Runs.{Run, size, sets_of, IsRunAt}
use Rattle.prop_intervals.specs.Sets.{changes_of, same_by}
use Rattle.prop_intervals.proofs.SetLemmas.{length-sets_of, drop_found, rest_found}
use Rattle.prop_intervals.proofs.ChangeLemmas.{take_add}

-- WHEN TWO SETS COUNT AS THE SAME
pub same_by-same : (name : Option ℕ) (a : PropSet) → same_by name a a ≡ true
same_by-same None a = same_set-same a
same_by-same (Some n) a = same_option-same (get a n)

pub same_by-left : (name : Option ℕ) (a b : PropSet) → same_by name a b ≡ true → (c : PropSet) → same_by name a c ≡ same_by name b c
same_by-left None a b h c = ap (λ s. same_set s c) (same_set-sound a b h)
same_by-left (Some n) a b h c = ap (λ o. same_option same_value o (get c n)) (same_option-sound (get a n) (get b n) h)

pub same_by-right : (name : Option ℕ) (a b : PropSet) → same_by name a b ≡ true → (c : PropSet) → same_by name c a ≡ same_by name c b
same_by-right None a b h c = ap (λ s. same_set c s) (same_set-sound a b h)
same_by-right (Some n) a b h c = ap (λ o. same_option same_value (get c n) o) (same_option-sound (get a n) (get b n) h)

changes_after-map : {A B : Type 0} (same : B → B → Bool) (f : A → B) (x : A) (place : ℕ) (xs : List A) → changes_after same (f x) place (map f xs) ≡ changes_after (λ a b. same (f a) (f b)) x place xs
changes_after-map same f x place [] = refl
changes_after-map same f x place (y ∷ xs) = ap (unless_same (same (f x) (f y)) place) (changes_after-map same f y (place + 1) xs)

pub changes_by : (name : Option ℕ) (sets : List PropSet) → changes_of name sets ≡ changes (same_by name) sets
changes_by None [] = refl
changes_by None (s ∷ sets) = refl
changes_by (Some n) [] = refl
changes_by (Some n) (s ∷ sets) = changes_after-map (same_option same_value) (λ s. get s n) s 1 sets

-- BETWEEN TWO PLACES
filter_out : (test : ℕ → Bool) (b : Bool) (place : ℕ) (places : List ℕ) → test place ≡ false → filter test (unless_same b place places) ≡ filter test places
filter_out test true place places h = refl
filter_out test false place places h = if_false _ h

filter_in : (test : ℕ → Bool) (b : Bool) (place : ℕ) (places : List ℕ) → test place ≡ true → filter test (unless_same b place places) ≡ unless_same b place (filter test places)
filter_in test true place places h = refl
filter_in test false place places h = if_true _ h

inside : (low high place : ℕ) → low < place → place < high → (nat_lt low place && nat_lt place high) ≡ true
inside low high place h k = rw (lt-ltb low place h, lt-ltb place high k) refl

below : (low high place : ℕ) → place ≤ low → (nat_lt low place && nat_lt place high) ≡ false
below low high place h = rw (le-ltb low place h) refl

above : (low high place : ℕ) → high ≤ place → (nat_lt low place && nat_lt place high) ≡ false
above low high place h = rw (le-ltb place high h) (both (nat_lt low place))
  where
    both : (b : Bool) → (b && false) ≡ false
    both true = refl
    both false = refl

none_in : {A : Type 0} (same : A → A → Bool) (low high : ℕ) (x : A) (place : ℕ) (xs : List A) → high ≤ place → between low high (changes_after same x place xs) ≡ []
none_in same low high x place [] h = refl
none_in same low high x place (y ∷ xs) h =
    filter_out (λ q. nat_lt low q && nat_lt q high) (same x y) place (changes_after same y (place + 1) xs) (above low high place h) ∙ none_in same low high y (place + 1) xs (omega arith)

all_in : {A : Type 0} (same : A → A → Bool) (low high : ℕ) (x : A) (place : ℕ) (xs : List A) → low < place → place + length xs ≤ high → between low high (changes_after same x place xs) ≡ changes_after same x place xs
all_in same low high x place [] h k = refl
all_in same low high x place (y ∷ xs) h k =
    filter_in (λ q. nat_lt low q && nat_lt q high) (same x y) place (changes_after same y (place + 1) xs) (inside low high place h (omega arith))
    ∙ ap (unless_same (same x y) place) (all_in same low high y (place + 1) xs (omega arith) (omega arith))

from_place : {A : Type 0} (same : A → A → Bool) (n : ℕ) (low high : ℕ) (x : A) (place : ℕ) (xs : List A) (y : A) (rest : List A) → low ≡ place + n → drop n xs ≡ y ∷ rest → place + length xs ≤ high →
    between low high (changes_after same x place xs) ≡ changes_after same y (low + 1) rest
from_place same zero low high x place [] y rest e h k = cc
from_place same zero low high x place (z ∷ xs) y rest e h k =
    let z_is : z ≡ y = cc in
    let xs_is : xs ≡ rest = cc in
    let p : place + 1 ≡ low + 1 = omega arith in
    filter_out (λ q. nat_lt low q && nat_lt q high) (same x z) place (changes_after same z (place + 1) xs) (below low high place (omega arith))
    ∙ all_in same low high z (place + 1) xs (omega arith) (omega arith) ∙ ap (λ q. changes_after same z q xs) p ∙ ap (λ w. changes_after same w (low + 1) xs) z_is ∙ ap (changes_after same y (low + 1)) xs_is
from_place same (suc n) low high x place [] y rest e h k = cc
from_place same (suc n) low high x place (z ∷ xs) y rest e h k =
    filter_out (λ q. nat_lt low q && nat_lt q high) (same x z) place (changes_after same z (place + 1) xs) (below low high place (omega arith))
    ∙ from_place same n low high z (place + 1) xs y rest (omega arith) h (omega arith)

up_to_place : {A : Type 0} (same : A → A → Bool) (n : ℕ) (high : ℕ) (x : A) (place : ℕ) (xs : List A) → high ≡ place + n → 0 < place → between 0 high (changes_after same x place xs) ≡ changes_after same x place (take n xs)
up_to_place same zero high x place xs e h = none_in same 0 high x place xs (omega arith)
up_to_place same (suc n) high x place [] e h = refl
up_to_place same (suc n) high x place (y ∷ xs) e h =
    filter_in (λ q. nat_lt 0 q && nat_lt q high) (same x y) place (changes_after same y (place + 1) xs) (inside 0 high place h (omega arith))
    ∙ ap (unless_same (same x y) place) (up_to_place same n high y (place + 1) xs (omega arith) (omega arith))

-- behind a place
pub next_is : {A : Type 0} (same : A → A → Bool) (i : ℕ) (xs : List A) (y : A) (rest : List A) → drop i xs ≡ y ∷ rest → next_change i (length xs) (changes same xs) ≡ first (changes_after same y (i + 1) rest)
next_is same zero [] y rest h = cc
next_is same zero (x ∷ xs) y rest h =
    let x_is : x ≡ y = cc in
    let xs_is : xs ≡ rest = cc in
    ap first (all_in same 0 (suc (length xs)) x 1 xs (omega arith) (omega arith)) ∙ ap (λ w. first (changes_after same w 1 xs)) x_is ∙ ap (λ l. first (changes_after same y 1 l)) xs_is
next_is same (suc i) [] y rest h = cc
next_is same (suc i) (x ∷ xs) y rest h = ap first (from_place same i (suc i) (suc (length xs)) x 1 xs y rest (omega arith) h (omega arith))

-- in front of a place
pub previous_is : {A : Type 0} (same : A → A → Bool) (i : ℕ) (xs : List A) → 0 < i → previous_change 0 i (changes same xs) ≡ last (changes same (take i xs))
previous_is same zero xs h = absurd (omega arith)
previous_is same (suc i) [] h = refl
previous_is same (suc i) (x ∷ xs) h = ap last (up_to_place same i (suc i) x 1 xs (omega arith) (omega arith))

-- ALONG RUNS
pub along_run : {A : Type 0} (same : A → A → Bool) (x : A) (n place : ℕ) (xs : List A) → same x x ≡ true → changes_after same x place (replicate n x ++ xs) ≡ changes_after same x (place + n) xs
along_run same x zero place xs h = let e : place ≡ place + 0 = omega arith in ap (λ p. changes_after same x p xs) e
along_run same x (suc n) place xs h =
    let e : place + 1 + n ≡ place + suc n = omega arith in
    ap (λ b. unless_same b place (changes_after same x (place + 1) (replicate n x ++ xs))) h ∙ along_run same x n (place + 1) xs h ∙ ap (λ p. changes_after same x p xs) e

pub after_like : {A : Type 0} (same : A → A → Bool) (a b : A) (place : ℕ) (xs : List A) → ((c : A) → same a c ≡ same b c) → changes_after same a place xs ≡ changes_after same b place xs
after_like same a b place [] h = refl
after_like same a b place (c ∷ xs) h = ap (λ t. unless_same t place (changes_after same c (place + 1) xs)) (h c)

pub behind_run : (runs : List Run) (place : ℕ) (set : PropSet) (start end : ℕ) (h : IsRunAt runs place set start end) → sets_of h.back ≡ drop end (sets_of runs)
behind_run runs place set start end h =
    let t = h.ends in
    let e : place + (end - place) ≡ end = omega arith in
    sym (ap (λ n. drop n (sets_of runs)) (sym e) ∙ sym (drop-drop (end - place) place (sets_of runs)) ∙ ap (drop (end - place)) (drop_found runs place set start end h)
    ∙ drop_at (replicate (end - place) set) (sets_of h.back) (end - place) (length-replicate (end - place) set))

pub next_starts : (name : Option ℕ) (runs : List Run) (i : ℕ) (set : PropSet) (start end : ℕ) → IsRunAt runs i set start end →
    next_change i (length (sets_of runs)) (changes_of name (sets_of runs)) ≡ first (changes_after (same_by name) set end (drop end (sets_of runs)))
next_starts name runs i set start end h =
    let t = h.ends in
    let e : i + 1 + (end - i - 1) ≡ end = omega arith in
    ap (next_change i (length (sets_of runs))) (changes_by name (sets_of runs)) ∙ next_is (same_by name) i (sets_of runs) set _ (rest_found runs i set start end h)
    ∙ ap first (along_run (same_by name) set (end - i - 1) (i + 1) (sets_of h.back) (same_by-same name set)) ∙ ap (λ p. first (changes_after (same_by name) set p (sets_of h.back))) e
    ∙ ap (λ l. first (changes_after (same_by name) set end l)) (behind_run runs i set start end h)

-- BACKWARDS
pub append_unless : (b : Bool) (place : ℕ) (l m : List ℕ) → unless_same b place (l ++ m) ≡ unless_same b place l ++ m
append_unless true place l m = refl
append_unless false place l m = refl

no_change : {A : Type 0} (same : A → A → Bool) (x : A) (n place : ℕ) → same x x ≡ true → changes_after same x place (replicate n x) ≡ []
no_change same x zero place h = refl
no_change same x (suc n) place h = ap (λ b. unless_same b place (changes_after same x (place + 1) (replicate n x))) h ∙ no_change same x n (place + 1) h

after_collapsed : {A : Type 0} (same : A → A → Bool) (w : A) (place : ℕ) (ys : List A) (x : A) (n : ℕ) → same x x ≡ true → changes_after same w place (ys ++ x ∷ replicate n x) ≡ changes_after same w place (ys ++ x ∷ [])
after_collapsed same w place [] x n h = ap (unless_same (same w x) place) (no_change same x n (place + 1) h)
after_collapsed same w place (y ∷ ys) x n h = ap (unless_same (same w y) place) (after_collapsed same y (place + 1) ys x n h)

-- only the first of a run counts
collapsed : {A : Type 0} (same : A → A → Bool) (ys : List A) (x : A) (n : ℕ) → same x x ≡ true → changes same (ys ++ x ∷ replicate n x) ≡ changes same (ys ++ x ∷ [])
collapsed same [] x n h = no_change same x n 1 h
collapsed same (y ∷ ys) x n h = after_collapsed same y 1 ys x n h

after_one_more : {A : Type 0} (same : A → A → Bool) (w : A) (place : ℕ) (ys : List A) (y x : A) → changes_after same w place (ys ++ y ∷ x ∷ []) ≡ changes_after same w place (ys ++ y ∷ []) ++ unless_same (same y x) (place + length ys + 1) []
after_one_more same w place [] y x = let e : place + 1 ≡ place + 0 + 1 = omega arith in ap (λ p. unless_same (same w y) place (unless_same (same y x) p [])) e ∙ append_unless (same w y) place [] (unless_same (same y x) (place + 0 + 1) [])
after_one_more same w place (z ∷ ys) y x =
    let e : place + 1 + length ys + 1 ≡ place + suc (length ys) + 1 = omega arith in
    ap (unless_same (same w z) place) (after_one_more same z (place + 1) ys y x ∙ ap (λ p. changes_after same z (place + 1) (ys ++ y ∷ []) ++ unless_same (same y x) p []) e)
    ∙ append_unless (same w z) place (changes_after same z (place + 1) (ys ++ y ∷ [])) (unless_same (same y x) (place + suc (length ys) + 1) [])

one_more : {A : Type 0} (same : A → A → Bool) (ys : List A) (y x : A) → changes same (ys ++ y ∷ x ∷ []) ≡ changes same (ys ++ y ∷ []) ++ unless_same (same y x) (length ys + 1) []
one_more same [] y x = refl
one_more same (z ∷ ys) y x = let e : 1 + length ys + 1 ≡ suc (length ys) + 1 = omega arith in after_one_more same z 1 ys y x ∙ ap (λ p. changes_after same z 1 (ys ++ y ∷ []) ++ unless_same (same y x) p []) e

-- the sets in front of a place in a run: those in front of the run, and the first of the run
in_run : (runs : List Run) (place : ℕ) (set : PropSet) (start end : ℕ) → IsRunAt runs place set start end → take (place + 1) (sets_of runs) ≡ take start (sets_of runs) ++ set ∷ replicate (place - start) set
in_run runs place set start end h =
    let s = h.starts in let t = h.ends in let a = h.start_is in
    let at_start : IsRunAt runs start set start end = record { front = h.front; back = h.back; runs_are = h.runs_are; start_is = h.start_is; starts = omega arith; ends = omega arith } in
    let e : start + suc (place - start) ≡ place + 1 = omega arith in
    let r : suc (place - start) ≤ length (replicate (end - start) set) = omega (arith, length-replicate (end - start) set) in
    let within : start ≤ length (sets_of runs) = (let w = length-sets_of runs in let z = size_front runs h.front _ h.runs_are in omega arith) in
    ap (λ n. take n (sets_of runs)) (sym e) ∙ take_add start (suc (place - start)) (sets_of runs) within
    ∙ ap (λ l. take start (sets_of runs) ++ l) (ap (take (suc (place - start))) (drop_found runs start set start end at_start) ∙ take-append-le (suc (place - start)) (replicate (end - start) set) (sets_of h.back) r ∙ take-replicate (suc (place - start)) (end - start) set (omega arith))
  where
    size_front : (runs front back : List Run) → runs ≡ front ++ back → size front ≤ size runs
    size_front runs front back e = rw e (front_within front back)
      where
        front_within : (front back : List Run) → size front ≤ size (front ++ back)
        front_within [] back = omega arith
        front_within (x ∷ front) back = let w = front_within front back in omega arith

pub previous_starts : (name : Option ℕ) (runs : List Run) (i : ℕ) (set : PropSet) (start end : ℕ) → 0 < i → IsRunAt runs (i - 1) set start end →
    previous_change 0 i (changes_of name (sets_of runs)) ≡ last (changes (same_by name) (take start (sets_of runs) ++ set ∷ []))
previous_starts name runs i set start end l h =
    let e : i - 1 + 1 ≡ i = omega arith in
    ap (previous_change 0 i) (changes_by name (sets_of runs)) ∙ previous_is (same_by name) i (sets_of runs) l
    ∙ ap (λ xs. last (changes (same_by name) xs)) (ap (λ n. take n (sets_of runs)) (sym e) ∙ in_run runs (i - 1) set start end h)
    ∙ ap last (collapsed (same_by name) (take start (sets_of runs)) set (i - 1 - start) (same_by-same name set))
