use Rattle.std.proofs.Common.{◌≡◌, ◌++◌, take}
use Rattle.std.specs.List.{filter_map}
use Rattle.marker_set.specs.Search.{number_between}
use Rattle.marker_set.proofs.search.found_cells.Given as goal

abbrev pub invariant-loop-cell : goal.invariant-loop-cell
invariant-loop-cell l = l.numbers.items ≡ l.initial.numbers.items ++ filter_map (number_between l.low l.high) (take l.cell-index l.cells)
