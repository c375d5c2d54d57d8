use Rattle.trace_check.proofs.FormItems.{calms}
use Rattle.trace_check.proofs.changes.calm.Goals as goal

pub returns : goal.returns
returns g c = λ program rest. calms program (g.M.Kernel.state c.args.kernel.now) rest (g.M.Kernel.state c.inhibit.new.self) c.args.old c.inhibit.ensures
