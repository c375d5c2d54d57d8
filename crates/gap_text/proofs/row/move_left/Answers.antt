use Rattle.std.proofs.Common.{◌≤◌, ◌+◌, ◌*◌, length, arith}
use Rattle.gap_text.proofs.Moves.{moves_left}
use Rattle.gap_text.proofs.row.move_left.Goals as goal

pub loop-place-preserved : goal.loop-place-preserved
loop-place-preserved c =
    let i = c.loop-place.invariant in
    let fits : c.loop-place.place + c.args.spare ≤ 256 * length c.args.blocks.now = omega (arith, i.1) in (
      omega (arith, c.min.ensures, c.min-count.ensures),
      omega (arith, i.1),
      moves_left c.args.blocks.now c.args.pool.now c.loop-place.pool c.copy_within_blocks.new.pool c.args.gap c.args.spare c.loop-place.place c.min-count.result i.2 (omega (arith, c.min.ensures, c.min-count.ensures)) fits
          c.copy_within_blocks.ensures.cells c.copy_within_blocks.ensures.row c.copy_within_blocks.ensures.pool,
    )
