use Rattle.kernel_top.proofs.Gathering.{any_later, any_here}
use Rattle.kernel_top.proofs.gathered.is_full.Goals as goal

pub loop-p-preserved : goal.loop-p-preserved
loop-p-preserved c = any_later c.args.processes.now c.loop-p.p c.get.result.now c.is_stopped.result c.get.ensures c.is_stopped.ensures c.if-is_stopped.false c.loop-p.invariant

pub returns-then-is_stopped : goal.returns-then-is_stopped
returns-then-is_stopped c = any_here c.args.processes.now c.loop-p.p c.get.result.now c.is_stopped.result c.get.ensures c.is_stopped.ensures c.if-is_stopped.true c.loop-p.invariant
