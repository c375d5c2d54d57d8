-- Which of two overlays wins is a total order, so the order in which they come doesn't count.
use Rattle.std.proofs.Common.{◌≡◌, ℕ, Bool, true, false, not, ◌==◌, nat_lt, if◌then◌else◌, List, Option, Some, None, refl, ap, sym, ◌∙◌}
use Rattle.std.specs.Cmp.{IsTotalOrder}
use Rattle.std.specs.declared.cmp.Ordering.{Ordering}
use Rattle.std.specs.Ordering.{nat_cmp, int_cmp, on, then_cmp, flip_args, is_lt, is_gt, ordering_then, ordering_reverse}
use Rattle.std.specs.declared.cmp.Ordering.TheVariants.{Less, Equal, Greater}
use Rattle.std.proofs.lemmas.Cmp.{nat_cmp_total, int_cmp_total, on_total, then_total, back_total}
use Rattle.std.proofs.lemmas.Bool.{eqb-true}
use Rattle.text_model.specs.Marks.{Overlay}
use Rattle.text_model.specs.OverlayQuestions.{rank, start_of, end_of, outranks}
use Rattle.text_model.proofs.Ranks.{nat_below, outranks_is}
use Rattle.overlay_set.specs.Numbered.{overlay_at}
use Rattle.overlay_set.proofs.ByNumber.{is_stronger, stronger}

-- by priority, start and end, where the greater one wins; and by number too
abbrev pub places : List Overlay → ℕ → ℕ → Ordering
places os = then_cmp (on (λ k. rank (overlay_at os k)) int_cmp) (then_cmp (on (λ k. start_of (overlay_at os k).span) nat_cmp) (on (λ k. end_of (overlay_at os k).span) (flip_args nat_cmp)))

abbrev pub ranking : List Overlay → ℕ → ℕ → Ordering
ranking os = then_cmp (places os) nat_cmp

places_total : (os : List Overlay) → IsTotalOrder (places os)
places_total os =
    then_total (on_total (λ k. rank (overlay_at os k)) int_cmp_total) (then_total (on_total (λ k. start_of (overlay_at os k).span) nat_cmp_total) (on_total (λ k. end_of (overlay_at os k).span) (back_total nat_cmp_total)))

pub ranking_total : (os : List Overlay) → IsTotalOrder (ranking os)
ranking_total os = then_total (places_total os) nat_cmp_total

pub last_equal : (a b : Ordering) → ordering_then a b ≡ Equal → b ≡ Equal
last_equal Less b h = cc
last_equal Equal b h = h
last_equal Greater b h = cc

pub numbers_equal : (x y : ℕ) → nat_cmp x y ≡ Equal → x ≡ y
numbers_equal x y h = by_tests (nat_lt x y) (x == y) refl refl h
  where
    by_tests : (s t : Bool) → nat_lt x y ≡ s → (x == y) ≡ t → (if s then Less else (if t then Equal else Greater)) ≡ Equal → x ≡ y
    by_tests true t p q k = cc
    by_tests false true p q k = eqb-true x y q
    by_tests false false p q k = cc

pub equal_ranks : (os : List Overlay) (x y : ℕ) → ranking os x y ≡ Equal → x ≡ y
equal_ranks os x y h = numbers_equal x y (last_equal (places os x y) (nat_cmp x y) h)

-- THE TEST AS AN ORDERING
reversed : (t : Ordering) → not (not (is_gt (ordering_reverse t))) ≡ is_lt t
reversed Less = refl
reversed Equal = refl
reversed Greater = refl

by_number : (t : Ordering) (below : Bool) (n : Ordering) → below ≡ is_lt n → (if below then not (is_gt t) else is_lt t) ≡ is_lt (ordering_then t n)
by_number Less true n h = refl
by_number Less false n h = refl
by_number Equal true n h = h
by_number Equal false n h = h
by_number Greater true n h = refl
by_number Greater false n h = refl

pub stronger_is : (os : List Overlay) (k other : ℕ) → is_stronger os k other ≡ is_lt (ranking os other k)
stronger_is os k other =
    ap (λ t. if nat_lt other k then t else not (outranks (overlay_at os other) (overlay_at os k))) (outranks_is (overlay_at os k) (overlay_at os other))
    ∙ ap (λ t. if nat_lt other k then not (is_gt (places os other k)) else not t) (outranks_is (overlay_at os other) (overlay_at os k))
    ∙ ap (λ t. if nat_lt other k then not (is_gt (places os other k)) else not (not (is_gt t))) ((places_total os).antisymm k other)
    ∙ ap (λ t. if nat_lt other k then not (is_gt (places os other k)) else t) (reversed (places os other k))
    ∙ by_number (places os other k) (nat_lt other k) (nat_cmp other k) (nat_below other k)

-- THE GREATER OF TWO
abbrev higher : (ℕ → ℕ → Ordering) → ℕ → ℕ → ℕ
higher R a k = if is_lt (R a k) then k else a

higher_swap : (R : ℕ → ℕ → Ordering) → IsTotalOrder R → ((x y : ℕ) → R x y ≡ Equal → x ≡ y) → (x y : ℕ) → higher R x y ≡ higher R y x
higher_swap R total apart x y = by_order (R x y) refl
  where
    by_order : (r : Ordering) → R x y ≡ r → higher R x y ≡ higher R y x
    by_order Less h = let back : R y x ≡ Greater = total.antisymm y x ∙ ap ordering_reverse h in rw (h, back) refl
    by_order Greater h = let back : R y x ≡ Less = total.antisymm y x ∙ ap ordering_reverse h in rw (h, back) refl
    by_order Equal h = let same : x ≡ y = apart x y h in rw same refl

higher_third : (R : ℕ → ℕ → Ordering) → IsTotalOrder R → ((x y : ℕ) → R x y ≡ Equal → x ≡ y) → (a x y : ℕ) → higher R (higher R a x) y ≡ higher R (higher R a y) x
higher_third R total apart a x y = by_orders (R a x) (R a y) refl refl
  where
    -- x is above a, and y is not
    one_above : (x y : ℕ) → R a x ≡ Less → is_lt (R a y) ≡ false → higher R x y ≡ x
    one_above x y h k = by_order (R x y) refl
      where
        by_order : (r : Ordering) → R x y ≡ r → higher R x y ≡ x
        by_order Less e = let above : R a y ≡ Less = total.trans a x y h e in let f : true ≡ false = ap is_lt (sym above) ∙ k in cc
        by_order Equal e = rw e refl
        by_order Greater e = rw e refl

    above : (x y : ℕ) → R a x ≡ Less → is_lt (R a y) ≡ false → higher R (higher R a x) y ≡ higher R (higher R a y) x
    above x y h k =
        let first : higher R a x ≡ x = rw h refl in
        let second : higher R a y ≡ a = rw k refl in
        ap (λ m. higher R m y) first ∙ one_above x y h k ∙ sym first ∙ ap (λ m. higher R m x) (sym second)

    none : is_lt (R a x) ≡ false → is_lt (R a y) ≡ false → higher R (higher R a x) y ≡ higher R (higher R a y) x
    none h k =
        let first : higher R a x ≡ a = rw h refl in
        let second : higher R a y ≡ a = rw k refl in
        ap (λ m. higher R m y) first ∙ second ∙ sym first ∙ ap (λ m. higher R m x) (sym second)

    both : R a x ≡ Less → R a y ≡ Less → higher R (higher R a x) y ≡ higher R (higher R a y) x
    both h k =
        let first : higher R a x ≡ x = rw h refl in
        let second : higher R a y ≡ y = rw k refl in
        ap (λ m. higher R m y) first ∙ higher_swap R total apart x y ∙ ap (λ m. higher R m x) (sym second)

    by_orders : (p q : Ordering) → R a x ≡ p → R a y ≡ q → higher R (higher R a x) y ≡ higher R (higher R a y) x
    by_orders Less Less h k = both h k
    by_orders Less Equal h k = above x y h (ap is_lt k)
    by_orders Less Greater h k = above x y h (ap is_lt k)
    by_orders Equal Less h k = sym (above y x k (ap is_lt h))
    by_orders Greater Less h k = sym (above y x k (ap is_lt h))
    by_orders Equal Equal h k = none (ap is_lt h) (ap is_lt k)
    by_orders Equal Greater h k = none (ap is_lt h) (ap is_lt k)
    by_orders Greater Equal h k = none (ap is_lt h) (ap is_lt k)
    by_orders Greater Greater h k = none (ap is_lt h) (ap is_lt k)

higher_is : (os : List Overlay) (a k : ℕ) → stronger os (Some a) k ≡ higher (ranking os) a k
higher_is os a k = ap (λ t. if t then k else a) (stronger_is os k a)

-- the order in which two come doesn't count
pub stronger_swap : (os : List Overlay) (best : Option ℕ) (x y : ℕ) → Some (stronger os (Some (stronger os best x)) y) ≡ Some (stronger os (Some (stronger os best y)) x)
stronger_swap os None x y = ap Some (higher_is os x y ∙ higher_swap (ranking os) (ranking_total os) (equal_ranks os) x y ∙ sym (higher_is os y x))
stronger_swap os (Some a) x y =
    let R = ranking os in
    ap Some (ap (λ m. stronger os (Some m) y) (higher_is os a x) ∙ higher_is os (higher R a x) y ∙ higher_third R (ranking_total os) (equal_ranks os) a x y
    ∙ sym (higher_is os (higher R a y) x) ∙ ap (λ m. stronger os (Some m) x) (sym (higher_is os a y)))
