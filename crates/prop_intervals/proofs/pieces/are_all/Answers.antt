use Rattle.std.proofs.Common.{length, refl, arith}
use Rattle.std.proofs.lemmas.Option.{slice_get_read}
use Rattle.prop_intervals.proofs.Together.{all_more_together}
use Rattle.prop_intervals.proofs.pieces.are_all.Goals as goal

pub loop-piece-preserved : goal.loop-piece-preserved
loop-piece-preserved c =
    all_more_together c.args.pieces.now c.loop-piece.piece-index c.piece-item.result c.args.set.now (slice_get_read c.args.pieces.now (length c.args.pieces.now) c.loop-piece.piece-index c.piece-item.result refl (omega (arith, c.loop-piece-test.true)) c.piece-item.is) (c.is_all.ensures c.if-not-is_all.false) c.loop-piece.invariant
