use Rattle.std.proofs.Common.{arith}
use Rattle.final_view.proofs.Ranking.{marks_more, are_more}
use Rattle.final_view.proofs.mark.numbered.Goals as goal

pub loop-k-preserved : goal.loop-k-preserved
loop-k-preserved c = record {
  exact = marks_more c.args.overlays.now c.args.buffer c.loop-k.k c.loop-k.marks.items _ c.mark_of.result (omega (arith, c.count-k-end.ensures, c.loop-k-test.true)) c.mark_of.ensures.exact c.in_ok-put.ensures c.loop-k.invariant.exact;
  are = are_more c.args.overlays.now c.loop-k.marks.items _ c.mark_of.result c.mark_of.ensures.is c.in_ok-put.ensures c.loop-k.invariant.are;
}
