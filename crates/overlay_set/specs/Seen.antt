-- The overlays that slots and the tree stand for: a slot has all but the stretch, which the tree has.
use Rattle.std.specs.Prelude.{ℕ, ◌+◌, ◌==◌, List, [], ◌∷◌, if◌then◌else◌, Option, Some, None}
use Rattle.text_model.specs.Marks.{Overlay, Span}
use Rattle.overlay_set.specs.Numbered.{span_at}
use Rattle.overlay_set.specs.declared.slot.Slot.{Slot}
use Rattle.overlay_set.specs.declared.bounds.Entry.{Entry}

abbrev pub span_in : List Entry → (k : ℕ) → Option Span
span_in [] k = None
span_in (e ∷ es) k = if e.number == k then Some (span_at e.stretch) else span_in es k

-- slots, of which the first has a number
abbrev pub seen_from : List Entry → (k : ℕ) → List Slot → List Overlay
seen_from entries k [] = []
seen_from entries k (s ∷ ss) = record
    { span = span_in entries k; front_advance = s.front; rear_advance = s.rear; props = s.props } ∷
    seen_from entries (k + 1) ss
