use Rattle.std.proofs.Common.{None, option_map, sym, ◌∙◌, arith}
use Rattle.std.proofs.lemmas.List.{map-id}
use Rattle.ek_types.proofs.InTurn.{next_moved, next_holds, moved_at_end}
use Rattle.marker_set.specs.Blocks.{pushed, CanPush}
use Rattle.marker_set.proofs.part.push_cells.Goals as goal

pub loop-cell-init : goal.loop-cell-init
loop-cell-init c = map-id c.args.cells.now

pub pushed-requires : goal.pushed-requires
pushed-requires c = next_holds (CanPush c.args.n) (λ o. o) (option_map (pushed c.args.at c.args.n c.args.advances)) c.loop-cell.cells c.args.cells.now c.loop-cell.cell-index None (omega arith) c.requires c.loop-cell.invariant

pub loop-cell-preserved : goal.loop-cell-preserved
loop-cell-preserved c = next_moved (λ o. o) (option_map (pushed c.args.at c.args.n c.args.advances)) c.loop-cell.cells c.args.cells.now c.loop-cell.cell-index None c.pushed.result (omega arith) c.pushed.ensures c.loop-cell.invariant

pub returns : goal.returns
returns c = sym (map-id c.loop-cell.cells) ∙ moved_at_end (λ o. o) (option_map (pushed c.args.at c.args.n c.args.advances)) c.loop-cell.cells c.args.cells.now c.loop-cell.cell-index (omega arith) c.loop-cell.invariant
