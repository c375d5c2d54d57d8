-- What is entered, as the machine's work.
use Rattle.std.specs.Prelude.{ℕ, List, ◌∷◌, map, option_map}
use Rattle.plain_machine.specs.Lines.{OfFilter, OfSentinel}
use Rattle.plain_machine.specs.Items.{Item, Enter}
use Rattle.ek_types.specs.Listing.{items_of}
use Rattle.ek_types.specs.Property.{number_of}
use Rattle.ek_call.specs.Meaning.{view}
use Rattle.handler_run.specs.declared.entry.Entry.{Entry}
use Rattle.handler_run.specs.declared.entry.Entry.TheVariants as entry

-- in front of a rest, if anything is entered
abbrev pub entering : (p : ℕ) → Entry → List Item → List Item
entering p (entry.Filter handler args) rest =
    Enter (OfFilter p) (option_map number_of handler) (map view (items_of args)) ∷ rest
entering p (entry.Sentinel handler args) rest =
    Enter (OfSentinel p) (option_map number_of handler) (map view (items_of args)) ∷ rest
entering p entry.None rest = rest
