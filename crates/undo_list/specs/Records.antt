-- The records of the program as those of the definitions.
use Rattle.std.specs.Prelude.{ℕ, ◌<◌, List, [], ◌∷◌, length, option_map}
use Rattle.text_model.specs.Undo as undo
use Rattle.ek_types.specs.Property.{prop_of, number_of}
use Rattle.undo_list.specs.declared.rec.Rec.{Rec}
use Rattle.undo_list.specs.declared.rec.Rec.TheVariants.{Boundary, Point, Inserted, Deleted, Prop, First, Moved}
use Rattle.undo_list.specs.declared.records.Entry.{Entry}

abbrev pub rec_of : Rec → undo.Rec
rec_of Boundary = undo.Boundary
rec_of (Point place) = undo.Point place
rec_of (Inserted from to) = undo.Inserted from to
rec_of (Deleted piece place) = undo.Deleted piece place
rec_of (Prop name old from to) = undo.Prop (number_of name) (option_map prop_of old) from to
rec_of First = undo.First
rec_of (Moved marker adjustment) = undo.Moved marker adjustment

abbrev pub entry_of : Entry → undo.Entry
entry_of e = record { what = rec_of e.what; serial = e.serial }

-- how many characters of deleted text a record keeps
abbrev pub size_of : undo.Rec → ℕ
size_of (undo.Deleted piece place) = length piece
size_of _ = 0

-- an insertion with another end
abbrev pub lengthened : (to : ℕ) → undo.Rec → undo.Rec
lengthened to (undo.Inserted from end) = undo.Inserted from to
lengthened to r = r

-- the serial numbers fall, all below a bound
abbrev pub AreFalling : (bound : ℕ) → List undo.Entry → Type 0
AreFalling bound [] = Unit {0}
AreFalling bound (e ∷ entries) = (e.serial < bound) × AreFalling e.serial entries
