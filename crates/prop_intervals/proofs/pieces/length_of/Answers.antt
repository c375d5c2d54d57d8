use Rattle.std.proofs.Common.{◌+◌, arith, length, refl}
use Rattle.std.proofs.lemmas.Option.{slice_get_read}
use Rattle.prop_intervals.proofs.Together.{length_more, length_within}
use Rattle.prop_intervals.proofs.pieces.length_of.Goals as goal

pub returns-in_err-total-clause-none : goal.returns-in_err-total-clause-none
returns-in_err-total-clause-none c h =
    omega (arith, c.loop-piece.invariant, c.len.ensures, length_more c.args.pieces.now c.loop-piece.piece-index c.piece-item.result (slice_get_read c.args.pieces.now (length c.args.pieces.now) c.loop-piece.piece-index c.piece-item.result refl (omega (arith, c.loop-piece-test.true)) c.piece-item.is), length_within c.args.pieces.now (c.loop-piece.piece-index + 1))
