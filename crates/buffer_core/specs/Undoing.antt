-- The markers that go back as deleted text is put back, and what a refused undoing leaves.
use Rattle.std.specs.Prelude.{◌≡◌, ◌≢◌, ℕ, ℤ, Bool, true, false, List, [], ◌∷◌, filter, slice_get, Option, Some, None, IfSome}
use Rattle.text_model.specs.Properties.{PropVal, PropEdit, Add, Remove}
use Rattle.text_model.specs.Marks.{Marker}
use Rattle.text_model.specs.Undo.{Rec, Entry, Inserted, Deleted, Prop}
use Rattle.text_model.specs.Commit.{Site, stands_at, marker_less}

-- those moves whose marker stands at a place
abbrev pub standing : (id place : ℕ) → List Marker → List (ℕ × ℤ) → List (ℕ × ℤ)
standing id place markers moves = filter (λ m. stands_at id place (slice_get markers m.0)) moves

-- markers moved back, one after the other
abbrev pub all_less : (id size : ℕ) → List (ℕ × ℤ) → List Marker → List Marker
all_less id size [] markers = markers
all_less id size (m ∷ moves) markers = all_less id size moves (marker_less id size m markers)

-- the change of properties that gives a property its old value, or takes it away where it had none
abbrev pub value_back : (name : ℕ) → Option PropVal → PropEdit
value_back name (Some old) = Add ((name, old) ∷ []) []
value_back name None = Remove (name ∷ [])

-- whether a record is of a change of text or properties
abbrev pub is_change : Rec → Bool
is_change (Inserted from to) = true
is_change (Deleted piece place) = true
is_change (Prop name old from to) = true
is_change _ = false

-- no record is of a change, but for that at one place
abbrev pub ChangesOnlyAt : (only : ℕ) → List Entry → Type 0
ChangesOnlyAt only entries =
    (i : ℕ) → i ≢ only → IfSome (slice_get entries i) (λ e. is_change e.what ≡ false)

-- the new site is the old one, but for point and the modified flag
abbrev pub StaysButForPoint : (old new : Site) → Type 0
StaysButForPoint old new = new ≡ record old {
  buffer = record old.buffer { point = new.buffer.point; modified = new.buffer.modified };
}

-- the records below a serial number are pending
abbrev pub with_pending : (below : ℕ) → Site → Site
with_pending below site = record site {
  buffer = record site.buffer { undo = record site.buffer.undo { pending_below = below } };
}
