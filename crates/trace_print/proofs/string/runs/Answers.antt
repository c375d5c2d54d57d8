use Rattle.std.proofs.Common.{[], arith, refl}
use Rattle.sink_printer.proofs.Printing.{prints_then, prints_same, prints_nothing}
use Rattle.trace_print.proofs.Stretches.{run_more, runs_done, run_end_within}
use Rattle.trace_print.proofs.string.runs.Goals as goal

pub loop-at-init : goal.loop-at-init
loop-at-init g c = record { printed = []; prints = prints_nothing; rest = refl; within = omega arith }

pub loop-at-preserved : goal.loop-at-preserved
loop-at-preserved g c =
    let sets = g.T.Sets.sets c.args.text.now in
    let end = run_end_within sets c.loop-at.at c.set.result.now c.set.ensures in
    record {
      printed = _;
      prints = prints_then c.loop-at.invariant.prints c.run.ensures;
      rest = run_more c.args.symbols.now sets c.loop-at.at c.end_of_run-end.result c.set.result.now c.loop-at.invariant.printed _ c.set.ensures c.end_of_run-end.ensures c.loop-at.invariant.rest;
      within = omega (arith, end.1, c.end_of_run-end.ensures);
    }

pub loop-at-smaller : goal.loop-at-smaller
loop-at-smaller g c =
    let end = run_end_within (g.T.Sets.sets c.args.text.now) c.loop-at.at c.set.result.now c.set.ensures in
    omega (arith, end.0, end.1, c.end_of_run-end.ensures)

pub returns : goal.returns
returns g c =
    prints_same (runs_done c.args.symbols.now (g.T.Sets.sets c.args.text.now) c.loop-at.at c.loop-at.invariant.printed _ (omega (arith, c.size.ensures, c.loop-at-test.false)) c.loop-at.invariant.rest) c.loop-at.invariant.prints
