use Rattle.std.proofs.Common.{arith}
use Rattle.trace_print.proofs.Stretches.{has_some, passed_over, run_end_within}
use Rattle.trace_print.proofs.runs.has_properties.Goals as goal

pub returns-then-len-gt0 : goal.returns-then-len-gt0
returns-then-len-gt0 g c = has_some (g.T.Sets.sets c.args.text.now) c.loop-at.at c.set-set.result.now c.set-set.ensures _ (omega (arith, c.len.ensures.exact, c.if-len-gt0.true)) c.loop-at.invariant.rest

pub loop-at-smaller : goal.loop-at-smaller
loop-at-smaller g c =
    let end = run_end_within (g.T.Sets.sets c.args.text.now) c.loop-at.at c.set-set.result.now c.set-set.ensures in
    omega (arith, end.0, end.1, c.end_of_run-at.ensures)

pub loop-at-preserved : goal.loop-at-preserved
loop-at-preserved g c =
    let end = run_end_within (g.T.Sets.sets c.args.text.now) c.loop-at.at c.set-set.result.now c.set-set.ensures in
    record {
      within = omega (arith, end.1, c.end_of_run-at.ensures);
      rest = passed_over (g.T.Sets.sets c.args.text.now) c.loop-at.at c.set-set.result.now c.set-set.ensures _ c.end_of_run-at.result c.end_of_run-at.ensures (omega (arith, c.len.ensures.exact, c.if-len-gt0.false)) c.loop-at.invariant.rest;
    }
