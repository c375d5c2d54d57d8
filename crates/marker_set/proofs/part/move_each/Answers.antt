use Rattle.std.proofs.Common.{None, option_map, sym, ◌∙◌, arith}
use Rattle.std.proofs.lemmas.List.{map-id}
use Rattle.ek_types.proofs.InTurn.{next_moved, next_holds, moved_at_end}
use Rattle.marker_set.specs.Blocks.{placed, rebased, Lies, CanMoveCell}
use Rattle.marker_set.proofs.Lists.{All-unmap}
use Rattle.marker_set.proofs.part.move_each.Goals as goal

pub loop-cell-init : goal.loop-cell-init
loop-cell-init c = map-id c.args.cells.now

pub moved-requires-clause-lie : goal.moved-requires-clause-lie
moved-requires-clause-lie c = next_holds (Lies c.args.from c.args.least c.args.most) (λ o. o) (option_map (rebased c.args.from c.args.to c.args.advances c.args.change)) c.loop-cell.cells c.args.cells.now c.loop-cell.cell-index None (omega arith) c.requires.lie c.loop-cell.invariant

pub moved-requires-clause-can : goal.moved-requires-clause-can
moved-requires-clause-can c =
    next_holds (λ o. CanMoveCell c.args.change (option_map (placed c.args.from) o)) (λ o. o) (option_map (rebased c.args.from c.args.to c.args.advances c.args.change)) c.loop-cell.cells c.args.cells.now c.loop-cell.cell-index None (omega arith)
    (All-unmap (CanMoveCell c.args.change) (option_map (placed c.args.from)) c.args.cells.now c.requires.can) c.loop-cell.invariant

pub loop-cell-preserved : goal.loop-cell-preserved
loop-cell-preserved c = next_moved (λ o. o) (option_map (rebased c.args.from c.args.to c.args.advances c.args.change)) c.loop-cell.cells c.args.cells.now c.loop-cell.cell-index None c.moved.result (omega arith) c.moved.ensures c.loop-cell.invariant

pub returns : goal.returns
returns c = sym (map-id c.loop-cell.cells) ∙ moved_at_end (λ o. o) (option_map (rebased c.args.from c.args.to c.args.advances c.args.change)) c.loop-cell.cells c.args.cells.now c.loop-cell.cell-index (omega arith) c.loop-cell.invariant
