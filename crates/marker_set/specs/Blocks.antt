-- What is seen of a part: its markers, each in a cell, at their places.
use Rattle.std.specs.Prelude.{◌≡◌, ℕ, ◌+◌, ◌-◌, ◌≤◌, ◌<◌, Bool, ◌==◌, ◌||◌, if◌then◌else◌, List, length}
use Rattle.std.specs.Prelude.{map, All, Option, Some, None, option_map, slice_index_or, slice_set}
use Rattle.text_model.specs.Places.{after_insert}
use Rattle.text_model.specs.Marks.{Spot}
use Rattle.marker_set.specs.Changes.{move_of, all_of, CanMove}
use Rattle.marker_set.specs.declared.cell.Cell.{Cell}
use Rattle.marker_set.specs.declared.change.Change.{Change}

pub record Block : Type 0 where
  pub buffer : ℕ
  pub advances : Bool
  pub cells : List (Option Cell)

-- a cell whose place is counted from an offset
abbrev pub placed : (offset : ℕ) → Cell → Cell
placed offset c = record { number = c.number; place = offset + c.place }

-- its marker lies within bounds
abbrev pub Lies : (offset least most : ℕ) → Option Cell → Type 0
Lies offset least most None = Unit {0}
Lies offset least most (Some c) = (least ≤ offset + c.place) × (offset + c.place ≤ most)

abbrev pub LiesFrom : (offset most : ℕ) → Option Cell → Type 0
LiesFrom offset most None = Unit {0}
LiesFrom offset most (Some c) = offset + c.place ≤ most

abbrev pub cell_at : Block → ℕ → Option Cell
cell_at b i = slice_index_or b.cells i None

-- it has no markers
abbrev pub IsFree : Block → Type 0
IsFree b = (i : ℕ) → cell_at b i ≡ None

-- the number of the marker in a cell
abbrev pub owner_of : Option Cell → Option ℕ
owner_of o = option_map (λ c. c.number) o

abbrev pub spot_in : Block → Option Cell → Option Spot
spot_in b o = option_map (λ c. record { buffer = b.buffer; place = c.place }) o

-- A CHANGE
abbrev pub moved_cell : Change → (advances : Bool) → Cell → Cell
moved_cell change advances c =
    record { number = c.number; place = move_of change (advances || all_of change) c.place }

-- the same, its place counted from one offset before and from another behind that
abbrev pub rebased : (from to : ℕ) → (advances : Bool) → Change → Cell → Cell
rebased from to advances change c =
    record { number = c.number; place = move_of change (advances || all_of change) (from + c.place) - to }

-- the same, among cells whose offset stays as text is put in
abbrev pub pushed : (at n : ℕ) → (advances : Bool) → Cell → Cell
pushed at n advances c = record { number = c.number; place = after_insert at n advances c.place }

abbrev pub CanPush : (n : ℕ) → Option Cell → Type 0
CanPush n None = Unit {0}
CanPush n (Some c) = n + c.place ≤ 0xffff_ffff_ffff_ffff

abbrev pub moved_block : (buffer : ℕ) → Change → Block → Block
moved_block buffer change b = if b.buffer == buffer
    then record b { cells = map (option_map (moved_cell change b.advances)) b.cells } else b

abbrev pub CanMoveCell : Change → Option Cell → Type 0
CanMoveCell change None = Unit {0}
CanMoveCell change (Some c) = CanMove change c.place

abbrev pub CanMoveBlock : (buffer : ℕ) → Change → Block → Type 0
CanMoveBlock buffer change b = b.buffer ≡ buffer → All (CanMoveCell change) b.cells

-- a marker was put into a free cell, of a part for such markers or with none
pub record Taken (number : ℕ) (advances : Bool) (spot : ℕ × ℕ) (old now : Block) (cell : ℕ) : Type 0 where
  pub within : cell < length old.cells
  pub free : cell_at old cell ≡ None
  pub alike : (i : ℕ) (c : Cell) → cell_at old i ≡ Some c → (old.buffer ≡ spot.0) × (old.advances ≡ advances)
  pub is : now ≡ record {
    buffer = spot.0;
    advances = advances;
    cells = slice_set old.cells cell (Some (record { number = number; place = spot.1 }));
  }
