use Rattle.std.proofs.Common.{◌∙◌}
use Rattle.kernel_state.specs.Meaning.{state_of}
use Rattle.kernel_state.proofs.Refusing.{closed_past, closed_at}
use Rattle.kernel_state.proofs.refusals.is_closed.Goals as goal

pub returns-then-p-count : goal.returns-then-p-count
returns-then-p-count c = closed_past (state_of c.args.kernel.now) c.count.result c.args.p c.count.ensures.count c.if-p-count.true

pub returns-else-p-count : goal.returns-else-p-count
returns-else-p-count c = c.closed.ensures ∙ closed_at (state_of c.args.kernel.now) c.args.p c.get.result.now c.get.ensures
