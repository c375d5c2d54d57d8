use Rattle.std.proofs.Common.{◌+◌, ◌∙◌, drop, sym}
use Rattle.kernel_state.proofs.LastBuffers.{running_from, step_met, step_passed, some_there}
use Rattle.kernel_state.proofs.buffers.has_running.Goals as goal

pub returns-then-runs_in : goal.returns-then-runs_in
returns-then-runs_in c =
    let ps = c.args.kernel.now.processes in
    let p = c.loop-p.p in
    let b = c.args.buffer in
    some_there (running_from 0 b ps) p (running_from (p + 1) b (drop (p + 1) ps)) (sym c.loop-p.invariant ∙ step_met p b c.get.result.now ps c.get.ensures (sym c.runs_in.ensures ∙ c.if-runs_in.true))

pub loop-p-preserved : goal.loop-p-preserved
loop-p-preserved c = sym (step_passed c.loop-p.p c.args.buffer c.get.result.now c.args.kernel.now.processes c.get.ensures (sym c.runs_in.ensures ∙ c.if-runs_in.false)) ∙ c.loop-p.invariant
