-- How entries move at a change.
use Rattle.std.specs.Prelude.{◌≡◌, ℕ, Bool, true, ◌==◌, ◌&&◌, ◌||◌, nat_lt, nat_le, List}
use Rattle.text_model.specs.Marks.{Overlay}
use Rattle.overlay_set.specs.Numbered.{overlay_at}
use Rattle.overlay_set.specs.Slots.{with_span, moved_by, CanMove}
use Rattle.overlay_set.specs.Entries.{entry_of}
use Rattle.overlay_set.specs.declared.slot.Change.{Change}
use Rattle.overlay_set.specs.declared.slot.Change.TheVariants.{Insertion, Deletion, Killed}
use Rattle.overlay_set.specs.declared.bounds.Entry.{Entry}

-- Whether a change may move a stretch of its buffer, or take it out. This spares work and decides nothing:
-- an overlay in any other stretch stays by the rules for moves themselves (`stays`, a clause of
-- `Entry::is_touched`), and one in such a stretch goes where they say.
abbrev pub can_touch : Change → (start end : ℕ) → Bool
can_touch (Insertion at n all) start end = nat_le at start || nat_le at end
can_touch (Deletion from to) start end = nat_lt from start || (nat_lt from end || (start == end))
can_touch Killed start end = true

abbrev pub touches : (buffer : ℕ) → Change → Entry → Bool
touches buffer change e = (e.stretch.0 == buffer) && can_touch change e.stretch.1 e.stretch.2

abbrev pub CanMoveEntry : (buffer : ℕ) → Change → Entry → Type 0
CanMoveEntry buffer change e = e.stretch.0 ≡ buffer → CanMove change e.stretch.1 × CanMove change e.stretch.2

-- the overlay of an entry, in its stretch, after a change
abbrev pub moved_at : (buffer : ℕ) → Change → List Overlay → Entry → Overlay
moved_at buffer change os e = moved_by buffer change (with_span (overlay_at os e.number) e.stretch)

abbrev pub moved_entry : (buffer : ℕ) → Change → List Overlay → Entry → List Entry
moved_entry buffer change os e = entry_of e.number (moved_at buffer change os e).span
