-- Marks by a key are passed from one place to the next.
use Rattle.std.proofs.Common.{◌≡◌, ℕ, ◌+◌, ◌<◌, ◌≤◌, suc, Bool, true, false, cond, not, ◌&&◌, ◌==◌, nat_lt, List, [], ◌∷◌, ◌++◌, filter, flat_map, drop, length, get_or, refl, sym, ap, ap₂, ◌∙◌, subst, true≢false, arith, append_assoc, append-nil}
use Rattle.std.specs.List.Sorted.{IsPermutation, IsStableByKey, IsNonDecreasingBy, ties}
use Rattle.std.specs.Ordering.{nat_cmp, is_lt}
use Rattle.std.proofs.lemmas.Bool.{eq-eqb}
use Rattle.std.proofs.lemmas.Bool.Decides.{nat_tests}
use Rattle.std.proofs.lemmas.List.Elements.{filter-append}
use Rattle.std.proofs.lemmas.Grind.{flat_map-append}
use Rattle.std.proofs.lemmas.List.{drop_all}
use Rattle.std.proofs.lemmas.Option.{slice_get-get_or}
use Rattle.text_model.proofs.Lists.{drop_at}
use Rattle.text_model.specs.Characters.{Ch}
use Rattle.text_model.proofs.Ranks.{nat_below}
use Rattle.final_view.specs.Marks.{Rises, Pass, AreSorted}
use Rattle.final_view.specs.declared.mark.Mark.{Mark}

filter_no : {X : Type 0} (p : X → Bool) (x : X) (xs : List X) → p x ≡ false → filter p (x ∷ xs) ≡ filter p xs
filter_no p x xs h = ap (λ b. cond b (x ∷ filter p xs) (filter p xs)) h

filter_alike : {X : Type 0} (p q : X → Bool) (xs : List X) → ((x : X) → p x ≡ q x) → filter p xs ≡ filter q xs
filter_alike p q [] h = refl
filter_alike p q (x ∷ xs) h = ap₂ (λ b l. cond b (x ∷ l) l) (h x) (filter_alike p q xs h)

-- SORTED BY A KEY
module _ (key : Mark → ℕ) where
  pub rises_more : (low least : ℕ) (marks : List Mark) → low ≤ least → Rises key least marks → Rises key low marks
  rises_more low least [] h r = tt
  rises_more low least (m ∷ marks) h r = (omega (arith, h, r.0), r.1)

  rises_of : (least : ℕ) (marks : List Mark) → ((i : ℕ) (d : Mark) → i < length marks → least ≤ key (get_or marks i d)) → IsNonDecreasingBy key marks → Rises key least marks
  rises_of least [] low up = tt
  rises_of least (m ∷ marks) low up =
      (low 0 m (omega arith), rises_of (key m) marks (λ i d h. up 0 (suc i) d (omega arith) (omega arith)) (λ i j d h k. up (suc i) (suc j) d (omega arith) (omega arith)))

  tie_tests : (a b : ℕ) → not (nat_lt a b) && not (nat_lt b a) ≡ (b == a)
  tie_tests a b = grind (arith, nat_tests)

  tie_is : (x m : Mark) (q : ℕ) → key x ≡ q → ties (λ a b. is_lt (nat_cmp (key a) (key b))) x m ≡ (key m == q)
  tie_is x m q e =
      ap₂ (λ s t. not s && not t) (sym (nat_below (key x) (key m))) (sym (nat_below (key m) (key x))) ∙ tie_tests (key x) (key m) ∙ ap (λ n. key m == n) e

  pub sorted_by_key : (at : ℕ → Mark) → ((q : ℕ) → key (at q) ≡ q) → (marks new : List Mark) → IsNonDecreasingBy key new → IsStableByKey key nat_cmp marks new → IsPermutation marks new → AreSorted key marks new
  sorted_by_key at is marks new up stable moved = record {
    rises = rises_of 0 new (λ i d h. omega arith) up;
    same = λ q.
        sym (filter_alike (ties (λ a b. is_lt (nat_cmp (key a) (key b))) (at q)) (λ m. key m == q) new (λ m. tie_is (at q) m q (is q))) ∙ stable (at q)
        ∙ filter_alike (ties (λ a b. is_lt (nat_cmp (key a) (key b))) (at q)) (λ m. key m == q) marks (λ m. tie_is (at q) m q (is q));
    moved = moved;
  }

  module _ (test : ℕ → Mark → Bool) (sound : (q : ℕ) (m : Mark) → test q m ≡ true → key m ≡ q) where
    other : (q : ℕ) (m : Mark) → (key m ≡ q → ⊥) → test q m ≡ false
    other q m h = go (test q m) refl
      where
        go : (b : Bool) → test q m ≡ b → test q m ≡ false
        go true k = absurd (h (sound q m k))
        go false k = k

    twice_by : (q : ℕ) (m : Mark) (rest : List Mark) → filter (test q) (filter (λ m. key m == q) rest) ≡ filter (test q) rest → (b : Bool) → (key m == q) ≡ b
        → filter (test q) (cond b (m ∷ filter (λ m. key m == q) rest) (filter (λ m. key m == q) rest)) ≡ filter (test q) (m ∷ rest)
    twice_by q m rest e true k = ap (λ l. cond (test q m) (m ∷ l) l) e
    twice_by q m rest e false k = e ∙ sym (filter_no (test q) m rest (other q m (λ same. true≢false (sym (eq-eqb (key m) q same) ∙ k))))

    twice : (q : ℕ) (marks : List Mark) → filter (test q) (filter (λ m. key m == q) marks) ≡ filter (test q) marks
    twice q [] = refl
    twice q (m ∷ marks) = twice_by q m marks (twice q marks) (key m == q) refl

    -- a test of one key gives the same of marks sorted by the key
    pub same_test : (marks new : List Mark) → AreSorted key marks new → (q : ℕ) → filter (test q) new ≡ filter (test q) marks
    same_test marks new s q = sym (twice q new) ∙ ap (filter (test q)) (s.same q) ∙ twice q marks

    -- nothing stands before the first
    pub none_before : (least : ℕ) (marks : List Mark) → Rises key least marks → (q : ℕ) → q < least → filter (test q) marks ≡ []
    none_before least [] r q h = refl
    none_before least (m ∷ marks) r q h =
        filter_no (test q) m marks (other q m (λ e. omega (arith, e, h, r.0))) ∙ none_before (key m) marks r.1 q (omega (arith, h, r.0))

    -- PASSING
    -- some marks are passed and what they show at a place is printed
    pub record Going (f : Mark → List Ch) (at : ℕ) (old rest : List Mark) (printed : List Ch) : Type 0 where
      pub rises : Rises key 0 rest
      pub shown : printed ++ flat_map f (filter (test at) rest) ≡ flat_map f (filter (test at) old)
      pub left : (q : ℕ) → at < q → filter (test q) rest ≡ filter (test q) old

    module _ (f : Mark → List Ch) (at : ℕ) (old : List Mark) where
      pub going_begins : Rises key 0 old → Going f at old old []
      going_begins r = record { rises = r; shown = refl; left = λ q h. refl }

      pub going_on : (m : Mark) (rest all : List Mark) (printed : List Ch) → all ≡ m ∷ rest → key m ≤ at → Going f at old all printed → Going f at old rest (printed ++ flat_map f (filter (test at) (m ∷ [])))
      going_on m rest all printed e h g =
          let one = flat_map f (filter (test at) (m ∷ [])) in
          let more = flat_map f (filter (test at) rest) in
          let parts : flat_map f (filter (test at) (m ∷ rest)) ≡ one ++ more = ap (flat_map f) (filter-append (test at) (m ∷ []) rest) ∙ flat_map-append f (filter (test at) (m ∷ [])) (filter (test at) rest) in
          let r : Rises key 0 (m ∷ rest) = subst (Rises key 0) e g.rises in
          record {
            rises = rises_more 0 (key m) rest (omega arith) r.1;
            shown = append_assoc printed one more ∙ ap (λ l. printed ++ l) (sym parts) ∙ ap (λ l. printed ++ flat_map f (filter (test at) l)) (sym e) ∙ g.shown;
            left = λ q k. sym (filter_no (test q) m rest (other q m (λ same. omega (arith, same, k, h)))) ∙ ap (filter (test q)) (sym e) ∙ g.left q k;
          }

      pub going_shown : (rest : List Mark) (printed : List Ch) → Rises key (at + 1) rest → Going f at old rest printed → printed ≡ flat_map f (filter (test at) old)
      going_shown rest printed r g =
          sym (append-nil printed) ∙ ap (λ l. printed ++ flat_map f l) (sym (none_before (at + 1) rest r at (omega arith))) ∙ g.shown

      pub going_ends : (rest : List Mark) (printed : List Ch) → Rises key (at + 1) rest → Going f at old rest printed → Pass key test at old rest
      going_ends rest printed r g = record { rises = r; left = g.left }

  -- the first that is left stands behind a place
  pub rises_behind : (at : ℕ) (rest more : List Mark) (m : Mark) → rest ≡ m ∷ more → at < key m → Rises key 0 rest → Rises key (at + 1) rest
  rises_behind at rest more m e h r =
      let k : Rises key 0 (m ∷ more) = subst (Rises key 0) e r in
      subst (Rises key (at + 1)) (sym e) (omega (arith, h), k.1)

  pub rises_empty : (least : ℕ) (rest : List Mark) → rest ≡ [] → Rises key least rest
  rises_empty least rest e = subst (Rises key least) (sym e) tt

pub next_one : (marks : List Mark) (i : ℕ) (d : Mark) → i < length marks → drop i marks ≡ get_or marks i d ∷ drop (i + 1) marks
next_one marks i d h = drop_at marks i (get_or marks i d) (slice_get-get_or marks i d h)

pub none_left : (marks : List Mark) (i : ℕ) → length marks ≤ i → drop i marks ≡ []
none_left marks i h = drop_all i marks h
