-- The winner of a list of overlays by rising number is the greatest of them.
use Rattle.std.proofs.Common.{◌≡◌, ℕ, ◌+◌, ◌<◌, ◌≤◌, zero, suc, Bool, true, false, ◌&&◌, ◌||◌, ◌==◌, nat_lt, nat_le, if◌then◌else◌, List, [], ◌∷◌, filter, All, Contains, Option, Some, None, is_some, ◌⊎◌, inl, inr, refl, ap, sym, ◌∙◌, subst, arith}
use Rattle.std.specs.List.{enumerate_from}
use Rattle.std.specs.Cmp.{IsTotalOrder}
use Rattle.std.specs.declared.cmp.Ordering.{Ordering}
use Rattle.std.specs.declared.cmp.Ordering.TheVariants.{Less, Equal, Greater}
use Rattle.std.specs.Ordering.{nat_cmp, int_cmp, on, then_cmp, flip_args, is_lt, is_eq, is_gt, ordering_then, ordering_reverse}
use Rattle.std.proofs.lemmas.Cmp.{nat_cmp_total, int_cmp_total, on_total, then_total, back_total, upto, tied_itself}
use Rattle.std.proofs.lemmas.Bool.{lt-ltb, eqb-true, eqb-false, ltb-true, ltb-false, le-leb, lt-leb}
use Rattle.std.proofs.lemmas.List.Elements.{All-cons, All-nil, All-weaker}
use Rattle.text_model.specs.Properties.{get}
use Rattle.text_model.specs.Marks.{Overlay}
use Rattle.text_model.specs.OverlayQuestions.{span_passes, covers, rank, start_of, end_of, outranks, greater, greatest_of, winner}
use Rattle.text_model.proofs.Ranks.{int_below, nat_below, nat_equal}
use Rattle.overlay_set.specs.Rivals.{wins_over, rivals}
use Rattle.overlay_set.proofs.OrderLemmas.{numbers_equal, last_equal}

abbrev Numbered : Type 0
Numbered = ℕ × Overlay

abbrev by_end : Numbered → Numbered → Ordering
by_end = then_cmp (on (λ (o : Numbered). end_of o.1.span) (flip_args nat_cmp)) (on (λ (o : Numbered). o.0) nat_cmp)

-- the greater one wins
abbrev place : Numbered → Numbered → Ordering
place = then_cmp (on (λ (o : Numbered). rank o.1) int_cmp) (then_cmp (on (λ (o : Numbered). start_of o.1.span) nat_cmp) by_end)

place_total : IsTotalOrder place
place_total =
    then_total (on_total (λ (o : Numbered). rank o.1) int_cmp_total) (then_total (on_total (λ (o : Numbered). start_of o.1.span) nat_cmp_total)
    (then_total (on_total (λ (o : Numbered). end_of o.1.span) (back_total nat_cmp_total)) (on_total (λ (o : Numbered). o.0) nat_cmp_total)))

tested : (i s e n : Ordering) → (is_lt i || (is_eq i && (is_lt s || (is_eq s && (is_lt e || (is_eq e && is_lt n)))))) ≡ is_lt (ordering_then i (ordering_then s (ordering_then e n)))
tested Less s e n = refl
tested Greater s e n = refl
tested Equal Less e n = refl
tested Equal Greater e n = refl
tested Equal Equal Less n = refl
tested Equal Equal Greater n = refl
tested Equal Equal Equal Less = refl
tested Equal Equal Equal Greater = refl
tested Equal Equal Equal Equal = refl

wins_is : (o p : Numbered) → wins_over o p ≡ is_lt (place p o)
wins_is o p =
    let i = int_cmp (rank p.1) (rank o.1) in
    let s = nat_cmp (start_of p.1.span) (start_of o.1.span) in
    let e = nat_cmp (end_of o.1.span) (end_of p.1.span) in
    let n = nat_cmp p.0 o.0 in
    ap (λ t. t || (is_eq i && (nat_lt (start_of p.1.span) (start_of o.1.span) || ((start_of p.1.span == start_of o.1.span) && (nat_lt (end_of o.1.span) (end_of p.1.span) || ((end_of o.1.span == end_of p.1.span) && nat_lt p.0 o.0)))))) (int_below (rank p.1) (rank o.1))
    ∙ ap (λ t. is_lt i || (is_eq i && (t || ((start_of p.1.span == start_of o.1.span) && (nat_lt (end_of o.1.span) (end_of p.1.span) || ((end_of o.1.span == end_of p.1.span) && nat_lt p.0 o.0)))))) (nat_below (start_of p.1.span) (start_of o.1.span))
    ∙ ap (λ t. is_lt i || (is_eq i && (is_lt s || (t && (nat_lt (end_of o.1.span) (end_of p.1.span) || ((end_of o.1.span == end_of p.1.span) && nat_lt p.0 o.0)))))) (nat_equal (start_of p.1.span) (start_of o.1.span))
    ∙ ap (λ t. is_lt i || (is_eq i && (is_lt s || (is_eq s && (t || ((end_of o.1.span == end_of p.1.span) && nat_lt p.0 o.0)))))) (nat_below (end_of o.1.span) (end_of p.1.span))
    ∙ ap (λ t. is_lt i || (is_eq i && (is_lt s || (is_eq s && (is_lt e || (t && nat_lt p.0 o.0)))))) (nat_equal (end_of o.1.span) (end_of p.1.span))
    ∙ ap (λ t. is_lt i || (is_eq i && (is_lt s || (is_eq s && (is_lt e || (is_eq e && t)))))) (nat_below p.0 o.0)
    ∙ tested i s e n

upto_by_parts : (x y : ℕ) → (nat_lt x y || ((x == y) && true)) ≡ nat_le x y
upto_by_parts x y = by_tests (nat_lt x y) (x == y) refl refl
  where
    by_tests : (s t : Bool) → nat_lt x y ≡ s → (x == y) ≡ t → (s || (t && true)) ≡ nat_le x y
    by_tests true t h k = let low : x < y = ltb-true x y h in sym (le-leb x y (omega arith))
    by_tests false true h k = let same : x ≡ y = eqb-true x y k in sym (le-leb x y (omega arith))
    by_tests false false h k =
        let high : y ≤ x = ltb-false x y h in
        let apart : x ≡ y → ⊥ = eqb-false x y k in
        sym (lt-leb x y (omega arith))

-- of two the later one has the higher number
outranks_wins : (o best : Numbered) → best.0 < o.0 → outranks o.1 best.1 ≡ wins_over o best
outranks_wins o best low =
    let later : nat_lt best.0 o.0 ≡ true = lt-ltb best.0 o.0 low in
    rw (later, upto_by_parts (end_of o.1.span) (end_of best.1.span)) refl

greater_is : (o best : Numbered) → best.0 < o.0 → greater (Some best) o ≡ (if is_lt (place best o) then o else best)
greater_is o best low = ap (λ t. if t then o else best) (outranks_wins o best low ∙ wins_is o best)

-- none of a list is above one
abbrev Upto : (best : Numbered) → Numbered → Type 0
Upto best o = is_gt (place o best) ≡ false

upto_self : (o : Numbered) → Upto o o
upto_self o = ap is_gt (tied_itself place_total o)

below_less : (o p : Numbered) → is_lt (place o p) ≡ true → Upto p o
below_less o p = by_order (place o p)
  where
    by_order : (r : Ordering) → is_lt r ≡ true → is_gt r ≡ false
    by_order Less h = refl
    by_order Equal h = refl
    by_order Greater h = cc

below_other : (o p : Numbered) → is_lt (place o p) ≡ false → Upto o p
below_other o p h = ap is_gt (place_total.antisymm p o) ∙ by_order (place o p) h
  where
    by_order : (r : Ordering) → is_lt r ≡ false → is_gt (ordering_reverse r) ≡ false
    by_order Less h = cc
    by_order Equal h = refl
    by_order Greater h = refl

-- the numbers of a list rise
abbrev RisesFrom : ℕ → List Numbered → Type 0
RisesFrom n [] = Unit {0}
RisesFrom n (o ∷ os) = (n ≤ o.0) × RisesFrom (o.0 + 1) os

rises_weaker : (n m : ℕ) (os : List Numbered) → n ≤ m → RisesFrom m os → RisesFrom n os
rises_weaker n m [] low h = tt
rises_weaker n m (o ∷ os) low h = let own = h.0 in (omega arith, h.1)

rises_filter : (p : Numbered → Bool) (n : ℕ) (os : List Numbered) → RisesFrom n os → RisesFrom n (filter p os)
rises_filter p n [] h = tt
rises_filter p n (o ∷ os) h = by_test (p o) refl (rises_filter p (o.0 + 1) os h.1)
  where
    by_test : (t : Bool) → p o ≡ t → RisesFrom (o.0 + 1) (filter p os) → RisesFrom n (filter p (o ∷ os))
    by_test true e ih = rw e (h.0, ih)
    by_test false e ih = rw e (rises_weaker n (o.0 + 1) (filter p os) (let own = h.0 in omega arith) ih)

rises_listed : (n : ℕ) (os : List Overlay) → RisesFrom n (enumerate_from n os)
rises_listed n [] = tt
rises_listed n (o ∷ os) = (omega arith, rises_listed (n + 1) os)

rivals_rise : (buffer position name : ℕ) (os : List Overlay) → RisesFrom 0 (rivals buffer position name os)
rivals_rise buffer position name os =
    rises_filter (λ (o : Numbered). is_some (get o.1.props name)) 0 (filter (λ (o : Numbered). span_passes buffer (covers position) o.1.span) (enumerate_from 0 os))
    (rises_filter (λ (o : Numbered). span_passes buffer (covers position) o.1.span) 0 (enumerate_from 0 os) (rises_listed 0 os))

-- THE GREATEST
record Tops (w best : Numbered) (os : List Numbered) : Type 0 where
  first : Upto w best
  others : All (Upto w) os
  among : Contains (best ∷ os) w

further : (best o w : Numbered) (os : List Numbered) → Contains (o ∷ os) w → Contains (best ∷ o ∷ os) w
further best o w os (k, l, e) = (suc k, omega (arith, l), e)

skipped : (best o w : Numbered) (os : List Numbered) → Contains (best ∷ os) w → Contains (best ∷ o ∷ os) w
skipped best o w os (zero, l, e) = (0, omega arith, e)
skipped best o w os (suc k, l, e) = (suc (suc k), omega (arith, l), e)

tops : (os : List Numbered) (best : Numbered) (n : ℕ) → best.0 < n → RisesFrom n os → (w : Numbered) → greatest_of (Some best) os ≡ Some w → Tops w best os
tops [] best n low rises w h =
    let same : best ≡ w = some_same h in
    subst (λ v. Tops v best []) same (record { first = upto_self best; others = All-nil (Upto best); among = (0, omega arith, refl) })
  where
    value : Numbered → Option Numbered → Numbered
    value d None = d
    value d (Some x) = x

    some_same : {x y : Numbered} → Some x ≡ Some y → x ≡ y
    some_same {x} {y} e = ap (value x) e
tops (o ∷ os) best n low rises w h = by_order (is_lt (place best o)) refl (λ b own e. tops os b (o.0 + 1) own rises.1 w e)
  where
    lower : best.0 < o.0
    lower = let own = rises.0 in omega arith

    step : greater (Some best) o ≡ (if is_lt (place best o) then o else best)
    step = greater_is o best lower

    by_order : (t : Bool) → is_lt (place best o) ≡ t → ((b : Numbered) → b.0 < o.0 + 1 → greatest_of (Some b) os ≡ Some w → Tops w b os) → Tops w best (o ∷ os)
    by_order true e ih =
        let picked : greater (Some best) o ≡ o = step ∙ ap (λ t. if t then o else best) e in
        let rest : Tops w o os = ih o (omega arith) (sym (ap (λ b. greatest_of (Some b) os) picked) ∙ h) in
        record {
          first = upto place_total best o w (below_less best o e) rest.first;
          others = All-cons (Upto w) o os rest.first rest.others;
          among = further best o w os rest.among;
        }
    by_order false e ih =
        let picked : greater (Some best) o ≡ best = step ∙ ap (λ t. if t then o else best) e in
        let rest : Tops w best os = ih best (omega (arith, lower)) (sym (ap (λ b. greatest_of (Some b) os) picked) ∙ h) in
        record {
          first = rest.first;
          others = All-cons (Upto w) o os (upto place_total o best w (below_other best o e) rest.first) rest.others;
          among = skipped best o w os rest.among;
        }

wins_or_same : (w o : Numbered) → Upto w o → (o.0 ≡ w.0) ⊎ (wins_over w o ≡ true)
wins_or_same w o h = by_order (place o w) refl
  where
    by_order : (r : Ordering) → place o w ≡ r → (o.0 ≡ w.0) ⊎ (wins_over w o ≡ true)
    by_order Less e = inr (wins_is w o ∙ ap is_lt e)
    by_order Equal e =
        let i = int_cmp (rank o.1) (rank w.1) in
        let s = nat_cmp (start_of o.1.span) (start_of w.1.span) in
        let t = nat_cmp (end_of w.1.span) (end_of o.1.span) in
        let n = nat_cmp o.0 w.0 in
        inl (numbers_equal o.0 w.0 (last_equal t n (last_equal s (ordering_then t n) (last_equal i (ordering_then s (ordering_then t n)) e))))
    by_order Greater e = let f : true ≡ false = sym (ap is_gt e) ∙ h in cc

greatest_wins : (os : List Numbered) → RisesFrom 0 os → (w : Numbered) → greatest_of None os ≡ Some w → Contains os w × All (λ o. (o.0 ≡ w.0) ⊎ (wins_over w o ≡ true)) os
greatest_wins [] rises w h = cc
greatest_wins (o ∷ os) rises w h =
    let t : Tops w o os = tops os o (o.0 + 1) (omega arith) rises.1 w h in
    (t.among, All-weaker (Upto w) (λ o. (o.0 ≡ w.0) ⊎ (wins_over w o ≡ true)) (wins_or_same w) (o ∷ os) (All-cons (Upto w) o os t.first t.others))

some_greatest : (os : List Numbered) (best : Numbered) → greatest_of (Some best) os ≡ None → ⊥
some_greatest [] best h = cc
some_greatest (o ∷ os) best h = some_greatest os (greater (Some best) o) h

none_greatest : (os : List Numbered) → greatest_of None os ≡ None → os ≡ []
none_greatest [] h = refl
none_greatest (o ∷ os) h = absurd (some_greatest os o h)

pub no_winner : (buffer position name : ℕ) (os : List Overlay) → winner buffer position name os ≡ None → rivals buffer position name os ≡ []
no_winner buffer position name os h = none_greatest (rivals buffer position name os) h

pub winner_is_one : (buffer position name : ℕ) (os : List Overlay) (best : ℕ × Overlay) → winner buffer position name os ≡ Some best → Contains (rivals buffer position name os) best
winner_is_one buffer position name os best h = (greatest_wins (rivals buffer position name os) (rivals_rise buffer position name os) best h).0

pub winner_wins : (buffer position name : ℕ) (os : List Overlay) (best : ℕ × Overlay) → winner buffer position name os ≡ Some best → All (λ o. (o.0 ≡ best.0) ⊎ (wins_over best o ≡ true)) (rivals buffer position name os)
winner_wins buffer position name os best h = (greatest_wins (rivals buffer position name os) (rivals_rise buffer position name os) best h).1
