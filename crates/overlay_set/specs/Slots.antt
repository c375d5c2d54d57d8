-- What is seen of an overlay's slot, and of a change.
use Rattle.std.specs.Prelude.{◌≡◌, ℕ, ◌+◌, ◌≤◌, Bool, false, Some, None, IfSome}
use Rattle.text_model.specs.Marks.{Overlay, Span, move_overlay, evaporated, overlay_left, insertion, deletion}
use Rattle.text_model.specs.OverlayQuestions.{covers, lies_within}
use Rattle.overlay_set.specs.Numbered.{span_at}
use Rattle.overlay_set.specs.declared.slot.Slot.{Slot}
use Rattle.overlay_set.specs.declared.slot.Change.{Change}
use Rattle.overlay_set.specs.declared.slot.Change.TheVariants.{Insertion, Deletion, Killed}
use Rattle.overlay_set.specs.declared.slot.Question.{Question}
use Rattle.overlay_set.specs.declared.slot.Question.TheVariants.{At, Within}

-- an overlay without its stretch, which the tree has
abbrev pub bare_of : Slot → Overlay
bare_of slot = record { span = None; front_advance = slot.front; rear_advance = slot.rear; props = slot.props }

abbrev pub bare : Overlay → Overlay
bare o = record o { span = None }

abbrev pub with_span : Overlay → ℕ × ℕ × ℕ → Overlay
with_span o stretch = record o { span = Some (span_at stretch) }

-- an empty overlay that evaporates is deleted behind a deletion
abbrev pub moved_by : (buffer : ℕ) → Change → Overlay → Overlay
moved_by buffer (Insertion at n all) o = move_overlay buffer all (insertion at n) o
moved_by buffer (Deletion from to) o = evaporated buffer (move_overlay buffer false (deletion from to) o)
moved_by buffer Killed o = overlay_left buffer o

-- what a change asks of a place
abbrev pub CanMove : Change → (place : ℕ) → Type 0
CanMove (Insertion at n all) place = n + place ≤ 0xffff_ffff_ffff_ffff
CanMove (Deletion from to) place = from ≤ to
CanMove Killed place = Unit {0}

abbrev pub CanMoveIn : (buffer : ℕ) → Change → Overlay → Type 0
CanMoveIn buffer change o =
    IfSome o.span (λ s. s.buffer ≡ buffer → CanMove change s.start × CanMove change s.end)

-- what is asked of an overlay's span
abbrev pub test_of : Question → Span → Bool
test_of (At i) s = covers (i + 1) s
test_of (Within from to end) s = lies_within (from + 1) (to + 1) (end + 1) s
