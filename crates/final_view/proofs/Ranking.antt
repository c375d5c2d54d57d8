-- The marks of a buffer by strength are its overlays by strength.
use Rattle.std.proofs.Common.{◌≡◌, ℕ, ◌+◌, ◌<◌, Bool, true, false, cond, not, if◌then◌else◌, List, [], ◌∷◌, ◌++◌, map, take, length, Option, Some, None, All, refl, sym, ap, ap₂, ◌∙◌, subst, option_to_list, IfSome}
use Rattle.std.specs.Prelude.{slice_get}
use Rattle.std.specs.List.{AllByRecursion}
use Rattle.std.specs.List.Sorted.{IsSortedBy, IsStableBy, IsPermutation}
use Rattle.std.specs.Cmp.{IsTotalOrder, IsStrictWeakOrder}
use Rattle.std.specs.declared.cmp.Ordering.{Ordering}
use Rattle.std.specs.declared.cmp.Ordering.TheVariants.{Less, Equal, Greater}
use Rattle.std.specs.Ordering.{is_lt, is_gt, ordering_reverse}
use Rattle.std.proofs.lemmas.Cmp.{nat_cmp_total, int_cmp_total, on_total, then_total, back_total}
use Rattle.std.proofs.lemmas.List.{map-append}
use Rattle.std.proofs.lemmas.List.MinMax.{ranks_by}
use Rattle.std.proofs.lemmas.List.Elements.{recursion_from_All, filter-append, All-nil, All-cons, All-append}
use Rattle.std.proofs.lemmas.List.Sorted.{All-permutation}
use Rattle.std.proofs.lemmas.Option.{slice_get-get_or, unwrap_or-slice_get}
use Rattle.text_model.specs.Marks.{Overlay}
use Rattle.text_model.specs.OverlayQuestions.{rank, start_of, end_of, outranks}
use Rattle.text_model.proofs.Lists.{take_one_more}
use Rattle.text_model.proofs.Ranks.{place, outranks_is}
use Rattle.overlay_set.specs.Numbered.{overlay_at, no_overlay}
use Rattle.final_view.specs.Shown.{in_buffer, put_in, rising}
use Rattle.final_view.specs.Marks.{overlay_of, overlays_in, IsMark, strength, AreRanked}
use Rattle.final_view.specs.declared.mark.Mark.{Mark}
use Rattle.final_view.proofs.Sorting.{put, sorted, sorted_by_any}

-- THE ORDER OF TWO MARKS
strength_total : IsTotalOrder strength
strength_total =
    then_total (on_total (λ (m : Mark). m.rank) int_cmp_total) (then_total (on_total (λ (m : Mark). m.start) nat_cmp_total) (on_total (λ (m : Mark). m.end) (back_total nat_cmp_total)))

abbrev pub weaker : Mark → Mark → Bool
weaker m other = is_lt (strength m other)

pub weaker_orders : IsStrictWeakOrder weaker
weaker_orders = ranks_by strength_total (λ (m : Mark). m)

turned : (t : Ordering) → not (is_gt (ordering_reverse t)) ≡ not (is_lt t)
turned Less = refl
turned Equal = refl
turned Greater = refl

module _ (os : List Overlay) where
  mark_start : (m : Mark) → IsMark os m → start_of (overlay_at os m.number).span ≡ m.start
  mark_start m i = ap start_of i.span

  mark_end : (m : Mark) → IsMark os m → end_of (overlay_at os m.number).span ≡ m.end
  mark_end m i = ap end_of i.span

  same_place : (m other : Mark) → IsMark os m → IsMark os other → place (overlay_of os m) (overlay_of os other) ≡ strength m other
  same_place m other i j = rw (mark_start m i, mark_end m i, mark_start other j, mark_end other j, i.rank, j.rank) refl

  beats : (m other : Mark) → IsMark os m → IsMark os other → outranks (overlay_of os m) (overlay_of os other) ≡ not (weaker m other)
  beats m other i j =
      outranks_is (overlay_of os m) (overlay_of os other) ∙ ap (λ t. not (is_gt t)) (same_place other m j i ∙ strength_total.antisymm other m) ∙ turned (strength m other)

  abbrev Are : List Mark → Type 0
  Are marks = AllByRecursion (IsMark os) marks

  abbrev sort : List Mark → List Mark
  sort marks = sorted weaker weaker_orders marks

  abbrev put_mark : Mark → List Mark → List Mark
  put_mark m marks = put weaker weaker_orders m marks

  put_by : (m other : Mark) (marks : List Mark) → outranks (overlay_of os other) (overlay_of os m) ≡ not (weaker other m) → overlays_in os (put_mark m marks) ≡ put_in (overlay_of os m) (overlays_in os marks)
      → (b : Bool) → weaker other m ≡ b → overlays_in os (cond (not b) (m ∷ other ∷ marks) (other ∷ put_mark m marks)) ≡ put_in (overlay_of os m) (overlays_in os (other ∷ marks))
  put_by m other marks e rest true k = ap (λ l. overlay_of os other ∷ l) rest ∙ ap (λ b. if b then overlay_of os m ∷ overlays_in os (other ∷ marks) else overlay_of os other ∷ put_in (overlay_of os m) (overlays_in os marks)) (sym (e ∙ ap not k))
  put_by m other marks e rest false k = ap (λ b. if b then overlay_of os m ∷ overlays_in os (other ∷ marks) else overlay_of os other ∷ put_in (overlay_of os m) (overlays_in os marks)) (sym (e ∙ ap not k))

  put_is : (m : Mark) (marks : List Mark) → IsMark os m → Are marks → overlays_in os (put_mark m marks) ≡ put_in (overlay_of os m) (overlays_in os marks)
  put_is m [] i are = refl
  put_is m (other ∷ marks) i are = put_by m other marks (beats other m are.0 i) (put_is m marks i are.1) (weaker other m) refl

  are_by : (m other : Mark) (marks : List Mark) → IsMark os m → Are (other ∷ marks) → Are (put_mark m marks) → (b : Bool) → Are (cond b (m ∷ other ∷ marks) (other ∷ put_mark m marks))
  are_by m other marks i are rest true = (i, are)
  are_by m other marks i are rest false = (are.0, rest)

  put_are : (m : Mark) (marks : List Mark) → IsMark os m → Are marks → Are (put_mark m marks)
  put_are m [] i are = (i, tt)
  put_are m (other ∷ marks) i are = are_by m other marks i are (put_are m marks i are.1) (not (weaker other m))

  sort_are : (marks : List Mark) → Are marks → Are (sort marks)
  sort_are [] are = tt
  sort_are (m ∷ marks) are = put_are m (sort marks) are.0 (sort_are marks are.1)

  sort_is : (marks : List Mark) → Are marks → overlays_in os (sort marks) ≡ rising (overlays_in os marks)
  sort_is [] are = refl
  sort_is (m ∷ marks) are = put_is m (sort marks) are.0 (sort_are marks are.1) ∙ ap (put_in (overlay_of os m)) (sort_is marks are.1)

  pub ranked_is : (buffer : ℕ) (marks new : List Mark) → All (IsMark os) marks → overlays_in os marks ≡ in_buffer buffer os → IsPermutation marks new → IsSortedBy weaker new → IsStableBy weaker marks new → AreRanked buffer os new
  ranked_is buffer marks new are e same up stable = record {
    exact = ap (overlays_in os) (sorted_by_any weaker weaker_orders marks new up stable) ∙ sort_is marks (recursion_from_All (IsMark os) marks are) ∙ ap rising e;
    are = All-permutation (IsMark os) marks new same are;
  }

  -- THE OVERLAYS BY NUMBER
  pub one_more : (buffer k : ℕ) → k < length os → in_buffer buffer (take k os) ++ in_buffer buffer (overlay_at os k ∷ []) ≡ in_buffer buffer (take (k + 1) os)
  one_more buffer k h =
      let there : slice_get os k ≡ Some (overlay_at os k) = slice_get-get_or os k no_overlay h ∙ ap Some (sym (unwrap_or-slice_get os k no_overlay)) in
      sym (ap (in_buffer buffer) (take_one_more os k (overlay_at os k) there) ∙ filter-append _ (take k os) (overlay_at os k ∷ []))

  pub marks_more : (buffer k : ℕ) (marks new : List Mark) (found : Option Mark) → k < length os → map (overlay_of os) (option_to_list found) ≡ in_buffer buffer (overlay_at os k ∷ []) → new ≡ marks ++ option_to_list found
      → overlays_in os marks ≡ in_buffer buffer (take k os) → overlays_in os new ≡ in_buffer buffer (take (k + 1) os)
  marks_more buffer k marks new found h one e before =
      ap (overlays_in os) e ∙ map-append (overlay_of os) marks (option_to_list found) ∙ ap₂ (λ a b. a ++ b) before one ∙ one_more buffer k h

  found_are : (found : Option Mark) → IfSome found (IsMark os) → All (IsMark os) (option_to_list found)
  found_are None h = All-nil (IsMark os)
  found_are (Some m) h = All-cons (IsMark os) m [] h (All-nil (IsMark os))

  pub are_more : (marks new : List Mark) (found : Option Mark) → IfSome found (IsMark os) → new ≡ marks ++ option_to_list found → All (IsMark os) marks → All (IsMark os) new
  are_more marks new found h e are = subst (All (IsMark os)) (sym e) (All-append (IsMark os) marks (option_to_list found) are (found_are found h))
