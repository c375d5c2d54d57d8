use Rattle.std.proofs.Common.{sym, ◌∙◌}
use Rattle.trace_check.proofs.Asking.{child_there, child_elsewhere}
use Rattle.trace_check.proofs.processes.is_new.Goals as goal

pub returns-then-child : goal.returns-then-child
returns-then-child g c =
    rw (sym c.processes-table.ensures) (child_there c.args.child c.processes-table.result.now c.loop-p.p c.get.result.now c.get.ensures c.loop-p.invariant (sym c.child.ensures ∙ c.if-child.true))

pub loop-p-preserved : goal.loop-p-preserved
loop-p-preserved g c =
    child_elsewhere c.args.child c.processes-table.result.now c.loop-p.p c.get.result.now c.get.ensures c.loop-p.invariant (λ e. c.if-child.false (c.child.ensures ∙ e))
