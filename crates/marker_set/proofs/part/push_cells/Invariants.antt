use Rattle.std.proofs.Common.{◌≡◌, map, option_map}
use Rattle.ek_types.proofs.InTurn.{first_moved}
use Rattle.marker_set.specs.Blocks.{pushed}
use Rattle.marker_set.proofs.part.push_cells.Given as goal

abbrev pub invariant-loop-cell : goal.invariant-loop-cell
invariant-loop-cell l = map (λ o. o) l.cells ≡ first_moved (option_map (pushed l.at l.n l.advances)) l.cell-index l.initial.cells
