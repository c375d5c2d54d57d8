-- The overlays of a buffer, as the code keeps them.
use Rattle.std.specs.Prelude.{◌≡◌, ℕ, ◌+◌, ◌<◌, ◌≤◌, max, Bool, ◌&&◌, ◌||◌, ◌==◌, nat_lt, nat_le, List}
use Rattle.std.specs.Prelude.{[], ◌∷◌, ◌++◌, map, filter, length, if◌then◌else◌, All, Some, is_some}
use Rattle.std.specs.List.{list_any}
use Rattle.std.specs.List.Sorted.{IsPermutation}
use Rattle.std.specs.declared.cmp.Ordering.{Ordering}
use Rattle.std.specs.Ordering.{nat_cmp, int_cmp, ordering_then}
use Rattle.text_model.specs.Marks.{Overlay}
use Rattle.text_model.specs.OverlayQuestions.{rank}
use Rattle.overlay_set.specs.Numbered.{overlay_at, span_at}
use Rattle.text_model.specs.Characters.{Ch}
use Rattle.text_model.specs.Properties.{get}
use Rattle.final_view.specs.Shown.{in_buffer, rising, ends_at, starts_at, before, after, invisible}
use Rattle.final_view.specs.declared.mark.Mark.{Mark}

abbrev pub overlay_of : List Overlay → Mark → Overlay
overlay_of overlays m = overlay_at overlays m.number

abbrev pub overlays_in : List Overlay → List Mark → List Overlay
overlays_in overlays marks = map (overlay_of overlays) marks

-- it is that of an overlay, which stands there in some buffer
pub record IsMark (overlays : List Overlay) (m : Mark) : Type 0 where
  pub made : m.number < length overlays
  pub buffer : ℕ
  pub span : (overlay_at overlays m.number).span ≡ Some (span_at (buffer, m.start, m.end))
  pub rank : m.rank ≡ rank (overlay_at overlays m.number)

-- by priority, then the larger start, then the smaller end
abbrev pub strength : Mark → Mark → Ordering
strength m other = ordering_then (int_cmp m.rank other.rank)
    (ordering_then (nat_cmp m.start other.start) (nat_cmp other.end m.end))

-- they are those of the buffer, from the weakest to the strongest
pub record AreRanked (buffer : ℕ) (overlays : List Overlay) (marks : List Mark) : Type 0 where
  pub exact : overlays_in overlays marks ≡ rising (in_buffer buffer overlays)
  pub are : All (IsMark overlays) marks

-- BY PLACE
abbrev pub start_key : Mark → ℕ
start_key m = m.start

abbrev pub end_key : Mark → ℕ
end_key m = m.end

-- the keys rise, and the first is at least this number
abbrev pub Rises : (Mark → ℕ) → (least : ℕ) → List Mark → Type 0
Rises key least [] = Unit {0}
Rises key least (m ∷ marks) = (least ≤ key m) × Rises key (key m) marks

-- by a key; those of one key stand as they stood
pub record AreSorted (key : Mark → ℕ) (marks sorted : List Mark) : Type 0 where
  pub rises : Rises key 0 sorted
  pub same : (q : ℕ) → filter (λ m. key m == q) sorted ≡ filter (λ m. key m == q) marks
  pub moved : IsPermutation marks sorted

-- the tests of `Shown`, by what a mark has
abbrev pub ends_here : (first place : ℕ) → Mark → Bool
ends_here first p m = ends_at first p (span_at (0, m.start, m.end))

abbrev pub starts_here : (last place : ℕ) → Mark → Bool
starts_here last p m = starts_at last p (span_at (0, m.start, m.end))

abbrev pub closed_of : List Overlay → Mark → List Ch
closed_of overlays m = after (overlay_of overlays m)

abbrev pub opened_of : List Overlay → Mark → List Ch
opened_of overlays m =
    before (overlay_of overlays m) ++ (if m.start == m.end then after (overlay_of overlays m) else [])

abbrev pub IsMade : List Overlay → Mark → Type 0
IsMade overlays m = m.number < length overlays

-- HIDING
abbrev pub hides : List Overlay → Mark → Bool
hides overlays m = is_some (get (overlay_of overlays m).props invisible)

abbrev pub hides_at : List Overlay → (place : ℕ) → Mark → Bool
hides_at overlays p m = hides overlays m && (nat_le m.start p && nat_lt p m.end)

-- up to where one hides, where characters are hidden up to a place by others
abbrev pub hidden_until : List Overlay → (until : ℕ) → Mark → ℕ
hidden_until overlays until m = if hides overlays m then max until m.end else until

-- whether a character is hidden where all are up to a place, and some overlays hide others
abbrev pub covered : List Overlay → (until : ℕ) → List Mark → (place : ℕ) → Bool
covered overlays until marks p = nat_lt p until || list_any (hides_at overlays p) marks

-- PASSING
-- Of some marks by a key those up to a place are passed: none behind it is lost, and the first that is left
-- is behind it.
pub record Pass (key : Mark → ℕ) (test : ℕ → Mark → Bool) (at : ℕ) (old rest : List Mark) : Type 0 where
  pub rises : Rises key (at + 1) rest
  pub left : (q : ℕ) → at < q → filter (test q) rest ≡ filter (test q) old

-- from there on just the same is hidden
pub record Cover (overlays : List Overlay) (at : ℕ) (old_until until : ℕ) (old rest : List Mark) : Type 0 where
  pub by : (q : ℕ) → at ≤ q → covered overlays until rest q ≡ covered overlays old_until old q
