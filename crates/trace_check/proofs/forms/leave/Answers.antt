use Rattle.kernel_steps.specs.Blocks.{kept_as}
use Rattle.trace_check.proofs.FormItems.{block_ends}
use Rattle.trace_check.proofs.forms.leave.Goals as goal

pub returns : goal.returns
returns g c = λ program rest. block_ends program (g.M.Kernel.state c.args.kernel.now) rest (g.M.Kernel.state c.restore.new.self) (kept_as c.args.kept) c.restore.ensures
