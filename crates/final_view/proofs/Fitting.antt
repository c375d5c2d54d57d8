-- The marks of a buffer, by start and by end, are those of its scene.
use Rattle.std.proofs.Common.{◌≡◌, ℕ, ◌+◌, Bool, true, false, cond, ◌&&◌, ◌||◌, ◌==◌, nat_lt, nat_le, if◌then◌else◌, List, [], ◌∷◌, ◌++◌, map, filter, flat_map, reverse, Option, Some, None, All, is_some, refl, sym, ap, ap₂, ◌∙◌, arith}
use Rattle.std.specs.List.{AllByRecursion, enumerate_from, list_any}
use Rattle.std.proofs.lemmas.Bool.Decides.{nat_tests}
use Rattle.std.proofs.lemmas.List.{reverse-append, map-append}
use Rattle.std.proofs.lemmas.List.Elements.{recursion_from_All, All-weaker}
use Rattle.std.proofs.lemmas.List.Sorted.{All-permutation, IsPermutation-reverse, list_any-IsPermutation}
use Rattle.text_model.specs.Characters.{Ch}
use Rattle.text_model.specs.Properties.{PropSet, get}
use Rattle.text_model.specs.Marks.{Overlay, Span}
use Rattle.text_model.specs.OverlayQuestions.{span_passes, covers, outranks, greater, greatest_of}
use Rattle.editor_model.specs.OverlayCalls.{char_property}
use Rattle.overlay_set.specs.Numbered.{span_at}
use Rattle.final_view.specs.Shown.{in_buffer, put_in, rising, stands, is_empty, ends_at, starts_at, before, after, opened, invisible, is_hidden, scene_in}
use Rattle.final_view.specs.Marks.{overlay_of, overlays_in, IsMark, IsMade, AreRanked, AreSorted, start_key, end_key, ends_here, starts_here, closed_of, opened_of, hides, hides_at}
use Rattle.final_view.specs.Scenes.{Fits, AreEdges}
use Rattle.final_view.specs.declared.mark.Mark.{Mark}
use Rattle.final_view.proofs.Passing.{same_test}
use Rattle.final_view.proofs.Places.{starts_sound, ends_sound}

-- THE WINNER
abbrev Numbered : Type 0
Numbered = ℕ × Overlay

abbrev has : Overlay → Bool
has o = is_some (get o.props invisible)

abbrev Has : Numbered → Type 0
Has o = has o.1 ≡ true

abbrev some_in : {X : Type 0} → List X → Bool
some_in [] = false
some_in (x ∷ xs) = true

best_has : (best o : Numbered) → Has best → Has o → (b : Bool) → Has (if b then o else best)
best_has best o h k true = k
best_has best o h k false = h

greatest_has : (best : Numbered) (os : List Numbered) (set : PropSet) → Has best → AllByRecursion Has os → is_some (char_property (greatest_of (Some best) os) invisible set) ≡ true
greatest_has best [] set h are = h
greatest_has best (o ∷ os) set h are = greatest_has (greater (Some best) o) os set (best_has best o h are.0 (outranks o.1 best.1)) are.1

won : (os : List Numbered) (set : PropSet) → AllByRecursion Has os → is_some (char_property (greatest_of None os) invisible set) ≡ some_in os || is_some (get set invisible)
won [] set are = refl
won (o ∷ os) set are = greatest_has o os set are.0 are.1

kept_by : (p : Numbered → Bool) (o : Numbered) (os : List Numbered) → AllByRecursion Has os → (b : Bool) → has o.1 ≡ b → AllByRecursion Has (cond b (o ∷ os) os)
kept_by p o os are true h = (h, are)
kept_by p o os are false h = are

all_have : (os : List Numbered) → AllByRecursion Has (filter (λ o. has o.1) os)
all_have [] = tt
all_have (o ∷ os) = kept_by (λ o. has o.1) o (filter (λ o. has o.1) os) (all_have os) (has o.1) refl

abbrev hit : (place : ℕ) → Overlay → Bool
hit q o = stands (covers (q + 1)) o && has o

module _ (buffer q : ℕ) where
  abbrev there : Overlay → Bool
  there o = span_passes buffer (covers (q + 1)) o.span

  some_by : (o : Numbered) (rest : List Numbered) (s t : Bool) → has o.1 ≡ t
      → some_in (filter (λ o. has o.1) (cond s (o ∷ rest) rest)) ≡ (s && t) || some_in (filter (λ o. has o.1) rest)
  some_by o rest true t h = ap (λ b. some_in (cond b (o ∷ filter (λ o. has o.1) rest) (filter (λ o. has o.1) rest))) h ∙ picked t
    where
      picked : (t : Bool) → some_in (cond t (o ∷ filter (λ o. has o.1) rest) (filter (λ o. has o.1) rest)) ≡ t || some_in (filter (λ o. has o.1) rest)
      picked true = refl
      picked false = refl
  some_by o rest false t h = refl

  -- one of another buffer isn't there
  in_by : (o : Overlay) (rest : List Overlay) (span : Option Span) → o.span ≡ span
      → (span_passes buffer (covers (q + 1)) span && has o) || list_any (hit q) rest ≡ list_any (hit q) (cond (span_passes buffer (λ s. true) span) (o ∷ rest) rest)
  in_by o rest None e = refl
  in_by o rest (Some s) e = by_home (s.buffer == buffer)
    where
      by_home : (b : Bool) → ((b && covers (q + 1) s) && has o) || list_any (hit q) rest ≡ list_any (hit q) (cond (b && true) (o ∷ rest) rest)
      by_home true = ap (λ t. ((elim t [ None ↦ false | Some s ↦ covers (q + 1) s ]) && has o) || list_any (hit q) rest) (sym e)
      by_home false = refl

  some_there : (k : ℕ) (os : List Overlay) → some_in (filter (λ o. has o.1) (filter (λ o. there o.1) (enumerate_from k os))) ≡ list_any (hit q) (in_buffer buffer os)
  some_there k [] = refl
  some_there k (o ∷ os) =
      some_by (k, o) (filter (λ o. there o.1) (enumerate_from (k + 1) os)) (there o) (has o) refl ∙ ap (λ b. (there o && has o) || b) (some_there (k + 1) os) ∙ in_by o (in_buffer buffer os) o.span refl

swap_or : (a b c : Bool) → a || (b || c) ≡ b || (a || c)
swap_or true true c = refl
swap_or true false c = refl
swap_or false b c = refl

module _ (t : Overlay → Bool) where
  put_any_by : (o p : Overlay) (rest : List Overlay) → list_any t (put_in o rest) ≡ t o || list_any t rest → (b : Bool) → list_any t (if b then o ∷ p ∷ rest else p ∷ put_in o rest) ≡ t o || (t p || list_any t rest)
  put_any_by o p rest e true = refl
  put_any_by o p rest e false = ap (λ b. t p || b) e ∙ swap_or (t p) (t o) (list_any t rest)

  put_any : (o : Overlay) (rest : List Overlay) → list_any t (put_in o rest) ≡ t o || list_any t rest
  put_any o [] = refl
  put_any o (p ∷ rest) = put_any_by o p rest (put_any o rest) (outranks p o)

  rising_any : (os : List Overlay) → list_any t (rising os) ≡ list_any t os
  rising_any [] = refl
  rising_any (o ∷ os) = put_any o (rising os) ∙ ap (λ b. t o || b) (rising_any os)

map_reversed : {X Y : Type 0} (f : X → Y) (xs : List X) → map f (reverse xs) ≡ reverse (map f xs)
map_reversed f [] = refl
map_reversed f (x ∷ xs) = ap (map f) (reverse-append (x ∷ []) xs) ∙ map-append f (reverse xs) (x ∷ []) ∙ ap (λ l. l ++ f x ∷ []) (map_reversed f xs) ∙ sym (reverse-append (f x ∷ []) (map f xs))

module _ (os : List Overlay) where
  abbrev Are : List Mark → Type 0
  Are marks = AllByRecursion (IsMark os) marks

  stands_is : (t : Span → Bool) (m : Mark) (i : IsMark os m) → stands t (overlay_of os m) ≡ t (span_at (i.buffer, m.start, m.end))
  stands_is t m i = ap (λ s. elim s [ None ↦ false | Some s ↦ t s ]) i.span

  hit_is : (q : ℕ) (m : Mark) → IsMark os m → hit q (overlay_of os m) ≡ hides_at os q m
  hit_is q m i = ap (λ b. b && hides os m) (stands_is (covers (q + 1)) m i) ∙ tests m.start m.end (hides os m)
    where
      tests : (s e : ℕ) (h : Bool) → (nat_le (s + 1) (q + 1) && nat_lt (q + 1) (e + 1)) && h ≡ h && (nat_le s q && nat_lt q e)
      tests s e true = grind (arith, nat_tests)
      tests s e false = grind (arith, nat_tests)

  hit_any : (q : ℕ) (marks : List Mark) → Are marks → list_any (hit q) (overlays_in os marks) ≡ list_any (hides_at os q) marks
  hit_any q [] are = refl
  hit_any q (m ∷ marks) are = ap₂ (λ a b. a || b) (hit_is q m are.0) (hit_any q marks are.1)

  module _ (t : Span → Bool) (here : Mark → Bool) (f : Mark → List Ch) (g : Overlay → List Ch) (same : (m : Mark) → IsMark os m → stands t (overlay_of os m) ≡ here m) (alike : (m : Mark) → IsMark os m → f m ≡ g (overlay_of os m)) where
    texts_by : (m : Mark) (marks : List Mark) → f m ≡ g (overlay_of os m) → flat_map f (filter here marks) ≡ flat_map g (filter (stands t) (overlays_in os marks))
        → (b : Bool) → flat_map f (cond b (m ∷ filter here marks) (filter here marks)) ≡ flat_map g (cond b (overlay_of os m ∷ filter (stands t) (overlays_in os marks)) (filter (stands t) (overlays_in os marks)))
    texts_by m marks e rest true = ap₂ (λ a b. a ++ b) e rest
    texts_by m marks e rest false = rest

    texts : (marks : List Mark) → Are marks → flat_map f (filter here marks) ≡ flat_map g (filter (stands t) (overlays_in os marks))
    texts [] are = refl
    texts (m ∷ marks) are =
        texts_by m marks (alike m are.0) (texts marks are.1) (here m)
        ∙ ap (λ b. flat_map g (cond b (overlay_of os m ∷ filter (stands t) (overlays_in os marks)) (filter (stands t) (overlays_in os marks)))) (sym (same m are.0))

  opened_is : (m : Mark) → IsMark os m → opened_of os m ≡ opened (overlay_of os m)
  opened_is m i = ap (λ b. before (overlay_of os m) ++ (if b then after (overlay_of os m) else [])) (sym (stands_is is_empty m i))

  module _ (buffer : ℕ) (marks openers closers : List Mark) (ranked : AreRanked buffer os marks) (by_start : AreSorted start_key marks openers) (by_end : AreSorted end_key (reverse marks) closers) where
    are : Are marks
    are = recursion_from_All (IsMark os) marks ranked.are

    turned_are : Are (reverse marks)
    turned_are = recursion_from_All (IsMark os) (reverse marks) (All-permutation (IsMark os) marks (reverse marks) (IsPermutation-reverse marks) ranked.are)

    hidden_is : (first last q : ℕ) (set : PropSet) → is_hidden (scene_in buffer first last os) q set ≡ list_any (hides_at os q) openers || is_some (get set invisible)
    hidden_is first last q set =
        won (filter (λ o. has o.1) (filter (λ o. there buffer q o.1) (enumerate_from 0 os))) set (all_have (filter (λ o. there buffer q o.1) (enumerate_from 0 os)))
        ∙ ap (λ b. b || is_some (get set invisible)) (
        some_there buffer q 0 os ∙ sym (rising_any (hit q) (in_buffer buffer os)) ∙ ap (list_any (hit q)) (sym ranked.exact) ∙ hit_any q marks are
        ∙ list_any-IsPermutation (hides_at os q) marks openers by_start.moved
        )

    fits : (first last : ℕ) → Fits os openers closers first last (scene_in buffer first last os)
    fits first last = record {
      begins = refl;
      ends = refl;
      closing = λ q.
          ap (flat_map (closed_of os)) (same_test end_key (ends_here first) (ends_sound first) (reverse marks) closers by_end q)
          ∙ texts (ends_at first q) (ends_here first q) (closed_of os) after (λ m i. stands_is (ends_at first q) m i) (λ m i. refl) (reverse marks) turned_are
          ∙ ap (λ l. flat_map after (filter (stands (ends_at first q)) l)) (map_reversed (overlay_of os) marks ∙ ap reverse ranked.exact);
      opening = λ q.
          ap (flat_map (opened_of os)) (same_test start_key (starts_here last) (starts_sound last) marks openers by_start q)
          ∙ texts (starts_at last q) (starts_here last q) (opened_of os) opened (λ m i. stands_is (starts_at last q) m i) opened_is marks are
          ∙ ap (λ l. flat_map opened (filter (stands (starts_at last q)) l)) ranked.exact;
      hidden = hidden_is first last;
    }

    made : All (IsMade os) marks
    made = All-weaker (IsMark os) (IsMade os) (λ m i. i.made) marks ranked.are

    pub edges_are : AreEdges buffer os openers closers
    edges_are = record {
      openers_made = All-permutation (IsMade os) marks openers by_start.moved made;
      closers_made = All-permutation (IsMade os) (reverse marks) closers by_end.moved (All-permutation (IsMade os) marks (reverse marks) (IsPermutation-reverse marks) made);
      starts = by_start.rises;
      ends = by_end.rises;
      fits = fits;
    }
