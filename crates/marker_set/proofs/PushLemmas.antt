-- Text that is put in among the cells of a part.
use Rattle.std.proofs.Common.{ℕ, Bool, List, All, Option, Some, None, option_map, arith}
use Rattle.std.proofs.lemmas.List.Elements.{All-weaker}
use Rattle.marker_set.specs.Blocks.{placed, CanPush, CanMoveCell}
use Rattle.marker_set.specs.declared.cell.Cell.{Cell}
use Rattle.marker_set.specs.declared.change.Change.TheVariants.{Insertion}
use Rattle.marker_set.proofs.Lists.{All-unmap}
use Rattle.marker_set.proofs.BlockLemmas.{cells_from}

cell_room : (from at n : ℕ) (all : Bool) (o : Option Cell) → CanMoveCell (Insertion at n all) (option_map (placed from) o) → CanPush n o
cell_room from at n all None h = tt
cell_room from at n all (Some c) h = omega (arith, h)

pub room_to_push : (from at n : ℕ) (all : Bool) (cells : List (Option Cell)) → All (CanMoveCell (Insertion at n all)) (cells_from from cells) → All (CanPush n) cells
room_to_push from at n all cells h =
    All-weaker (λ o. CanMoveCell (Insertion at n all) (option_map (placed from) o)) (CanPush n) (cell_room from at n all) cells
    (All-unmap (CanMoveCell (Insertion at n all)) (option_map (placed from)) cells h)
