use Rattle.std.proofs.Common.{◌∙◌, arith}
use Rattle.prim_changes.proofs.Inheriting.{run_more, runs_all, run_size}
use Rattle.prim_changes.proofs.inserts.with_inherited.Goals as goal

pub runs-preserved : goal.runs-preserved
runs-preserved c =
    let more = run_more c.args.set.now c.in_ok-all.all c.props.result.now c.args.piece c.runs.piece c.put_in_run.new.piece c.runs.i c.run_end-end.result c.runs.invariant.done c.runs.invariant.size (omega (arith, c.run_end-end.ensures.behind)) c.run_end-end.ensures.within c.in_ok-all.ensures
    (λ j a b. c.run_end-end.ensures.same j a b ∙ c.props.ensures) c.in_ok-put_in_run.ensures in
    record {
      done = more;
      size = run_size c.args.set.now c.args.piece c.put_in_run.new.piece c.run_end-end.result (omega (arith, c.run_end-end.ensures.within, c.runs.invariant.size)) more;
    }

pub returns : goal.returns
returns c = runs_all c.args.set.now c.args.piece c.runs.piece c.runs.i c.runs.invariant.done c.runs.invariant.size (omega arith)
