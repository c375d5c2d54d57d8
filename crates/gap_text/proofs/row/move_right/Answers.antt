use Rattle.std.proofs.Common.{arith}
use Rattle.gap_text.proofs.Moves.{moves_right}
use Rattle.gap_text.proofs.row.move_right.Goals as goal

pub loop-place-preserved : goal.loop-place-preserved
loop-place-preserved c =
    let i = c.loop-place.invariant in (
      omega (arith, c.min.ensures, c.min-count.ensures),
      moves_right c.args.blocks.now c.args.pool.now c.loop-place.pool c.copy_within_blocks.new.pool c.args.gap c.args.spare c.loop-place.place c.min-count.result i.1 (omega (arith, c.min.ensures, c.min-count.ensures))
          c.copy_within_blocks.ensures.cells c.copy_within_blocks.ensures.row c.copy_within_blocks.ensures.pool,
    )
