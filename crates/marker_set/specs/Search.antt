-- Which markers stand between two places.
use Rattle.std.specs.Prelude.{ℕ, Bool, false, ◌==◌, ◌&&◌, nat_le, if◌then◌else◌, List, [], Option, Some, None}
use Rattle.std.specs.List.{filter_map}
use Rattle.marker_set.specs.Blocks.{Block}
use Rattle.marker_set.specs.declared.cell.Cell.{Cell}
use Rattle.marker_set.specs.declared.slot.Home.{Home}
use Rattle.marker_set.specs.declared.slot.Home.TheVariants.{Nowhere, Alone, Packed}
use Rattle.marker_set.specs.declared.slot.Slot.{Slot}

-- the number of the marker in a cell, where its place is not before one place and not behind another
abbrev pub number_between : (low high : ℕ) → Option Cell → Option ℕ
number_between low high None = None
number_between low high (Some c) = if nat_le low c.place && nat_le c.place high then Some c.number else None

-- the numbers of the markers of a part
abbrev pub found_in : (buffer from to : ℕ) → Block → List ℕ
found_in buffer from to b = if b.buffer == buffer then filter_map (number_between from to) b.cells else []

abbrev pub home_within : (buffer from to : ℕ) → Home → Bool
home_within buffer from to Nowhere = false
home_within buffer from to (Alone own place) = (own == buffer) && (nat_le from place && nat_le place to)
home_within buffer from to (Packed p c) = false

-- whether a marker that is kept alone stands there
abbrev pub alone_within : (buffer from to : ℕ) → Slot → Bool
alone_within buffer from to slot = home_within buffer from to slot.home
