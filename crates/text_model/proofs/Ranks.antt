-- Which of two overlays outranks the other, as an ordering: by rank, start and end.
use Rattle.std.proofs.Common.{◌≡◌, ℕ, ◌<◌, ◌≤◌, ℤ, Bool, true, false, not, ◌&&◌, ◌||◌, ◌==◌, nat_lt, nat_le, int_lt, if◌then◌else◌, refl, ap, ◌∙◌, arith}
use Rattle.std.specs.declared.cmp.Ordering.{Ordering}
use Rattle.std.specs.declared.cmp.Ordering.TheVariants.{Less, Equal, Greater}
use Rattle.std.specs.Ordering.{nat_cmp, int_cmp, int_eq, is_lt, is_eq, is_gt, ordering_then}
use Rattle.std.proofs.lemmas.Bool.{eqb-true, eqb-false, ltb-true, ltb-false, ne_eqb, le-leb, lt-leb}
use Rattle.text_model.specs.Marks.{Overlay}
use Rattle.text_model.specs.OverlayQuestions.{rank, start_of, end_of, outranks}

-- THE TESTS AS ORDERINGS
pub int_below : (x y : ℤ) → int_lt x y ≡ is_lt (int_cmp x y)
int_below x y = by_tests (int_lt x y) (int_lt y x) refl
  where
    by_tests : (s t : Bool) → int_lt x y ≡ s → int_lt x y ≡ is_lt (if s then Less else (if t then Greater else Equal))
    by_tests true t p = p
    by_tests false true p = p
    by_tests false false p = p

pub nat_below : (x y : ℕ) → nat_lt x y ≡ is_lt (nat_cmp x y)
nat_below x y = by_tests (nat_lt x y) (x == y) refl
  where
    by_tests : (s t : Bool) → nat_lt x y ≡ s → nat_lt x y ≡ is_lt (if s then Less else (if t then Equal else Greater))
    by_tests true t p = p
    by_tests false true p = p
    by_tests false false p = p

pub nat_equal : (x y : ℕ) → (x == y) ≡ is_eq (nat_cmp x y)
nat_equal x y = by_tests (nat_lt x y) (x == y) refl refl
  where
    by_tests : (s t : Bool) → nat_lt x y ≡ s → (x == y) ≡ t → (x == y) ≡ is_eq (if s then Less else (if t then Equal else Greater))
    by_tests true t p q = let low : x < y = ltb-true x y p in ne_eqb x y (λ e. omega arith)
    by_tests false true p q = q
    by_tests false false p q = q

nat_upto : (x y : ℕ) → nat_le x y ≡ not (is_gt (nat_cmp x y))
nat_upto x y = by_tests (nat_lt x y) (x == y) refl refl
  where
    by_tests : (s t : Bool) → nat_lt x y ≡ s → (x == y) ≡ t → nat_le x y ≡ not (is_gt (if s then Less else (if t then Equal else Greater)))
    by_tests true t p q = let low : x < y = ltb-true x y p in le-leb x y (omega arith)
    by_tests false true p q = let same : x ≡ y = eqb-true x y q in le-leb x y (omega arith)
    by_tests false false p q =
        let high : y ≤ x = ltb-false x y p in
        let apart : x ≡ y → ⊥ = eqb-false x y q in
        lt-leb x y (omega arith)

tested : (i s e : Ordering) → (is_lt i || (is_eq i && (is_lt s || (is_eq s && not (is_gt e))))) ≡ not (is_gt (ordering_then i (ordering_then s e)))
tested Less s e = refl
tested Greater s e = refl
tested Equal Less e = refl
tested Equal Greater e = refl
tested Equal Equal e = refl

-- THE ORDER OF TWO OVERLAYS
abbrev pub place : Overlay → Overlay → Ordering
place p o = ordering_then (int_cmp (rank p) (rank o)) (ordering_then (nat_cmp (start_of p.span) (start_of o.span)) (nat_cmp (end_of o.span) (end_of p.span)))

pub outranks_is : (o p : Overlay) → outranks o p ≡ not (is_gt (place p o))
outranks_is o p =
    ap (λ t. t || (int_eq (rank p) (rank o) && (nat_lt (start_of p.span) (start_of o.span) || ((start_of p.span == start_of o.span) && nat_le (end_of o.span) (end_of p.span))))) (int_below (rank p) (rank o))
    ∙ ap (λ t. is_lt (int_cmp (rank p) (rank o)) || (int_eq (rank p) (rank o) && (t || ((start_of p.span == start_of o.span) && nat_le (end_of o.span) (end_of p.span))))) (nat_below (start_of p.span) (start_of o.span))
    ∙ ap (λ t. is_lt (int_cmp (rank p) (rank o)) || (int_eq (rank p) (rank o) && (is_lt (nat_cmp (start_of p.span) (start_of o.span)) || (t && nat_le (end_of o.span) (end_of p.span))))) (nat_equal (start_of p.span) (start_of o.span))
    ∙ ap (λ t. is_lt (int_cmp (rank p) (rank o)) || (int_eq (rank p) (rank o) && (is_lt (nat_cmp (start_of p.span) (start_of o.span)) || (is_eq (nat_cmp (start_of p.span) (start_of o.span)) && t)))) (nat_upto (end_of o.span) (end_of p.span))
    ∙ tested (int_cmp (rank p) (rank o)) (nat_cmp (start_of p.span) (start_of o.span)) (nat_cmp (end_of o.span) (end_of p.span))
