-- Places where properties change, in a part of a text.
use Rattle.std.proofs.Common.{◌≡◌, ℕ, ◌+◌, ◌<◌, ◌≤◌, Bool, true, false, List, [], ◌∷◌, map, refl, sym, ap, ◌∙◌, arith}
use Rattle.std.specs.Prelude.{◌&&◌, nat_lt, if◌then◌else◌, Option, Some, None}
use Rattle.std.proofs.lemmas.Bool.{ltb-true, ltb-false, le-ltb, lt-ltb}
use Rattle.text_model.specs.Properties.{PropSet, get, same_set, same_option, same_value}
use Rattle.text_model.specs.PropertyQuestions.{first, last, between, changes, changes_after, unless_same, next_change, previous_change}
use Rattle.prop_intervals.specs.Sets.{changes_of, before, behind}

-- THE PLACES RISE
abbrev pub Rising : ℕ → List ℕ → Type 0
Rising n [] = Unit {0}
Rising n (x ∷ xs) = (n ≤ x) × Rising (x + 1) xs

weaker : (n : ℕ) (xs : List ℕ) → Rising (n + 1) xs → Rising n xs
weaker n [] h = tt
weaker n (x ∷ xs) h = (let k = h.0 in omega arith, h.1)

unless_rising : (b : Bool) (n : ℕ) (xs : List ℕ) → Rising (n + 1) xs → Rising n (unless_same b n xs)
unless_rising true n xs h = weaker n xs h
unless_rising false n xs h = (omega arith, h)

after_rising : {A : Type 0} (same : A → A → Bool) (before : A) (n : ℕ) (xs : List A) → Rising n (changes_after same before n xs)
after_rising same before n [] = tt
after_rising same before n (x ∷ xs) = unless_rising (same before x) n (changes_after same x (n + 1) xs) (after_rising same x (n + 1) xs)

changes_rising : {A : Type 0} (same : A → A → Bool) (xs : List A) → Rising 0 (changes same xs)
changes_rising same [] = tt
changes_rising same (x ∷ xs) = weaker 0 (changes_after same x 1 xs) (after_rising same x 1 xs)

places_rising : (name : Option ℕ) (sets : List PropSet) → Rising 0 (changes_of name sets)
places_rising None sets = changes_rising same_set sets
places_rising (Some name) sets = changes_rising (same_option same_value) (map (λ s. get s name) sets)

-- FROM A LARGER PART TO A SMALLER ONE
none_behind : (low end n : ℕ) (xs : List ℕ) → end ≤ n → Rising n xs → first (between low end xs) ≡ None
none_behind low end n [] l h = refl
none_behind low end n (x ∷ xs) l h = rw (outside (nat_lt low x)) (none_behind low end (x + 1) xs (let k = h.0 in omega arith) h.1)
  where
    outside : (b : Bool) → (b && nat_lt x end) ≡ false
    outside false = refl
    outside true = le-ltb x end (let k = h.0 in omega arith)

next_within : (low end big n : ℕ) (xs : List ℕ) → end ≤ big → Rising n xs → first (between low end xs) ≡ before end (first (between low big xs))
next_within low end big n [] l h = refl
next_within low end big n (x ∷ xs) l h = go (nat_lt low x) (nat_lt x big) (nat_lt x end) refl refl refl (next_within low end big (x + 1) xs l h.1)
  where
    go : (a b c : Bool) → nat_lt low x ≡ a → nat_lt x big ≡ b → nat_lt x end ≡ c → first (between low end xs) ≡ before end (first (between low big xs)) → first (between low end (x ∷ xs)) ≡ before end (first (between low big (x ∷ xs)))
    go false b c p q r rest = rw p rest
    go true true true p q r rest = rw (p, q, r) refl
    go true true false p q r rest = rw (p, q, r) (none_behind low end (x + 1) xs (let k = ltb-false x end r in omega arith) h.1)
    go true false true p q r rest = absurd (let k = ltb-false x big q in let m = ltb-true x end r in omega arith)
    go true false false p q r rest = rw (p, q, r) rest

abbrev AllAbove : ℕ → List ℕ → Type 0
AllAbove n [] = Unit {0}
AllAbove n (x ∷ xs) = (n < x) × AllAbove n xs

last_above : (start : ℕ) (xs : List ℕ) → AllAbove start xs → last xs ≡ behind start (last xs)
last_above start [] h = refl
last_above start (x ∷ []) h = rw (lt-ltb start x h.0) refl
last_above start (x ∷ y ∷ xs) h = last_above start (y ∷ xs) h.1

between_above : (start low place n : ℕ) (xs : List ℕ) → start < n → Rising n xs → AllAbove start (between low place xs)
between_above start low place n [] l h = tt
between_above start low place n (x ∷ xs) l h = go (nat_lt low x && nat_lt x place) (between_above start low place (x + 1) xs (let k = h.0 in omega arith) h.1)
  where
    go : (b : Bool) → AllAbove start (between low place xs) → AllAbove start (if b then x ∷ between low place xs else between low place xs)
    go true rest = (let k = h.0 in omega arith, rest)
    go false rest = rest

-- where all places lie above both bounds, these are the same
same_between : (start place n : ℕ) (xs : List ℕ) → start < n → Rising n xs → between start place xs ≡ between 0 place xs
same_between start place n [] l h = refl
same_between start place n (x ∷ xs) l h =
    let above : nat_lt start x ≡ true = lt-ltb start x (let k = h.0 in omega arith) in
    let above_0 : nat_lt 0 x ≡ true = lt-ltb 0 x (let k = h.0 in omega arith) in
    rw (above, above_0) (go (nat_lt x place) (same_between start place (x + 1) xs (let k = h.0 in omega arith) h.1))
  where
    go : (b : Bool) → between start place xs ≡ between 0 place xs → (if b then x ∷ between start place xs else between start place xs) ≡ (if b then x ∷ between 0 place xs else between 0 place xs)
    go true e = ap (λ ys. x ∷ ys) e
    go false e = e

last_behind : (start x : ℕ) (xs : List ℕ) (o : Option ℕ) → nat_lt start x ≡ false → o ≡ behind start (last xs) → o ≡ behind start (last (x ∷ xs))
last_behind start x [] o low h = h ∙ sym (ap (λ b. if b then Some x else None) low)
last_behind start x (y ∷ xs) o low h = h

previous_within : (start place n : ℕ) (xs : List ℕ) → Rising n xs → last (between start place xs) ≡ behind start (last (between 0 place xs))
previous_within start place n [] h = refl
previous_within start place n (x ∷ xs) h = go (nat_lt start x) (nat_lt 0 x) (nat_lt x place) refl refl refl (previous_within start place (x + 1) xs h.1)
  where
    go : (a b c : Bool) → nat_lt start x ≡ a → nat_lt 0 x ≡ b → nat_lt x place ≡ c → last (between start place xs) ≡ behind start (last (between 0 place xs)) → last (between start place (x ∷ xs)) ≡ behind start (last (between 0 place (x ∷ xs)))
    go true b c p q r rest =
        let l : start < x = ltb-true start x p in
        ap last (same_between start place (start + 1) (x ∷ xs) (omega arith) (omega arith, h.1))
        ∙ last_above start (between 0 place (x ∷ xs)) (between_above start 0 place (start + 1) (x ∷ xs) (omega arith) (omega arith, h.1))
    go false false c p q r rest = rw (p, q) rest
    go false true false p q r rest = rw (p, q, r) rest
    go false true true p q r rest = rw (p, q, r) (last_behind start x (between 0 place xs) _ p rest)

pub next_part : (name : Option ℕ) (sets : List PropSet) (i to end : ℕ) → to ≤ end → next_change i to (changes_of name sets) ≡ before to (next_change i end (changes_of name sets))
next_part name sets i to end h = next_within i to end 0 (changes_of name sets) h (places_rising name sets)

behind_both : (start from : ℕ) (o : Option ℕ) → start ≤ from → behind from o ≡ behind from (behind start o)
behind_both start from None h = refl
behind_both start from (Some q) h = go (nat_lt start q) refl
  where
    go : (b : Bool) → nat_lt start q ≡ b → behind from (Some q) ≡ behind from (if b then Some q else None)
    go true e = refl
    go false e = le-ltb-none (let l = ltb-false start q e in omega (arith, l, h))
      where
        le-ltb-none : q ≤ from → behind from (Some q) ≡ None
        le-ltb-none l = rw (le-ltb from q l) refl

pub previous_part : (name : Option ℕ) (sets : List PropSet) (start from i : ℕ) → start ≤ from → previous_change from i (changes_of name sets) ≡ behind from (previous_change start i (changes_of name sets))
previous_part name sets start from i h =
    let whole = changes_of name sets in
    previous_within from i 0 whole (places_rising name sets) ∙ behind_both start from (previous_change 0 i whole) h ∙ sym (ap (behind from) (previous_within start i 0 whole (places_rising name sets)))

-- NOTHING BETWEEN TWO PLACES
none_between : (low high : ℕ) (xs : List ℕ) → high ≤ low → between low high xs ≡ []
none_between low high [] h = refl
none_between low high (x ∷ xs) h = rw (outside (nat_lt low x) refl) (none_between low high xs h)
  where
    outside : (b : Bool) → nat_lt low x ≡ b → (b && nat_lt x high) ≡ false
    outside false e = refl
    outside true e = le-ltb x high (let l = ltb-true low x e in omega (arith, l, h))

pub no_next_before : (i to : ℕ) (xs : List ℕ) → to ≤ i → None ≡ next_change i to xs
no_next_before i to xs h = sym (ap first (none_between i to xs h))

pub no_previous_behind : (from i : ℕ) (xs : List ℕ) → i ≤ from → None ≡ previous_change from i xs
no_previous_behind from i xs h = sym (ap last (none_between from i xs h))
