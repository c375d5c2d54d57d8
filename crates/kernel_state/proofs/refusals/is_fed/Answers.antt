use Rattle.std.proofs.Common.{◌∙◌}
use Rattle.kernel_state.specs.Meaning.{state_of}
use Rattle.kernel_state.proofs.Refusing.{fed_past, fed_at}
use Rattle.kernel_state.proofs.refusals.is_fed.Goals as goal

pub returns-then-p-count : goal.returns-then-p-count
returns-then-p-count c = c.fed.ensures ∙ fed_at (state_of c.args.kernel.now) c.args.p c.get.result.now c.get.ensures

pub returns-else-p-count : goal.returns-else-p-count
returns-else-p-count c = fed_past (state_of c.args.kernel.now) c.count.result c.args.p c.count.ensures.count c.if-p-count.false
