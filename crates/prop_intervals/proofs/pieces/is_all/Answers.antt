use Rattle.std.proofs.Common.{sym, ◌∙◌, arith}
use Rattle.prop_intervals.proofs.Stepping.{one_set_to}
use Rattle.prop_intervals.proofs.pieces.is_all.Goals as goal

pub loop-i-preserved : goal.loop-i-preserved
loop-i-preserved c =
    let end = c.run_end-i in (
      end.ensures.within,
      one_set_to c.args.piece.now c.args.set.now c.props.result.now 0 c.loop-i.i c.loop-i.i end.result (omega arith) (sym c.same.ensures ∙ c.if-not-same.false) c.props.ensures (omega arith) (omega (arith, end.ensures.behind)) end.ensures.same c.loop-i.invariant.1,
    )
