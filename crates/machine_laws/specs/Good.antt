-- What holds of the undo records of a buffer, and of its text, from one change to the next.
use Rattle.std.specs.Prelude.{◌≡◌, ℕ, ◌≤◌, ◌<◌, true, false, List, [], ◌∷◌}
use Rattle.text_model.specs.Properties.{Cell}
use Rattle.text_model.specs.Ordered.{AreOrdered}
use Rattle.text_model.specs.Undo.{Rec, Inserted, Deleted, Prop, Entry, Undo, boundary_at, newer_than}
use Rattle.text_model.specs.Undo.{rewind, pending}
use Rattle.text_model.specs.Commit.{Buffer}

-- the places of a record are in order, and so are the sets of what it keeps
abbrev pub IsFine : Rec → Type 0
IsFine (Inserted from to) = from ≤ to
IsFine (Deleted piece place) = AreOrdered piece
IsFine (Prop name old from to) = from ≤ to
IsFine _ = Unit {0}

-- the serial numbers fall, all below a bound
abbrev pub Falling : (bound : ℕ) → List Entry → Type 0
Falling bound [] = Unit {0}
Falling bound (e ∷ entries) = (e.serial < bound) × (IsFine e.what × Falling e.serial entries)

-- where no records are kept there are none
abbrev pub OffIsEmpty : Undo → Type 0
OffIsEmpty u = u.on ≡ false → u.entries ≡ []

-- undoing the pending records down to a boundary comes to the same text as undoing all records down to it
abbrev pub PendingAgrees : Undo → List Cell → Type 0
PendingAgrees u text = (serial : ℕ) → serial < u.pending_below → boundary_at serial u.entries ≡ true →
    rewind (newer_than serial (pending u)) text ≡ rewind (newer_than serial u.entries) text

-- a buffer as each change leaves it
pub record Good (b : Buffer) : Type 0 where
  pub ordered : AreOrdered b.text
  pub falling : Falling b.undo.next b.undo.entries
  pub off : OffIsEmpty b.undo
  pub below : b.undo.pending_below ≤ b.undo.next
  pub agrees : PendingAgrees b.undo b.text
