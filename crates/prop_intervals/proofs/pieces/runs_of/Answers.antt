use Rattle.std.proofs.Common.{◌+◌, ◌++◌, ap, ◌∙◌, length, take, sym, arith, refl}
use Rattle.std.proofs.lemmas.List.{length-map}
use Rattle.prop_intervals.specs.Sets.{sets_in, together}
use Rattle.prop_intervals.proofs.SetLemmas.{length-sets_of}
use Rattle.std.proofs.lemmas.Option.{slice_get_read}
use Rattle.prop_intervals.proofs.Together.{length_more, length_within, sets_more}
use Rattle.prop_intervals.proofs.pieces.runs_of.Goals as goal

pub with_piece-requires-clause-fits : goal.with_piece-requires-clause-fits
with_piece-requires-clause-fits c =
    let i = c.loop-piece.piece-index in
    omega (arith, length-sets_of c.loop-piece.tree, ap length c.loop-piece.invariant.0, length-map (together (take i c.args.pieces.now)) (λ d. d.1), length_more c.args.pieces.now i c.piece-item.result (slice_get_read c.args.pieces.now (length c.args.pieces.now) c.loop-piece.piece-index c.piece-item.result refl (omega (arith, c.loop-piece-test.true)) c.piece-item.is), length_within c.args.pieces.now (i + 1), c.requires.fits)

pub loop-piece-preserved : goal.loop-piece-preserved
loop-piece-preserved c =
    (c.in_ok-tree.ensures.sets ∙ ap (λ s. s ++ sets_in c.piece-item.result) c.loop-piece.invariant.0 ∙ sym (sets_more c.args.pieces.now c.loop-piece.piece-index c.piece-item.result (slice_get_read c.args.pieces.now (length c.args.pieces.now) c.loop-piece.piece-index c.piece-item.result refl (omega (arith, c.loop-piece-test.true)) c.piece-item.is)), c.in_ok-tree.ensures.apart)
