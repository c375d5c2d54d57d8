use Rattle.std.proofs.Common.{◌∙◌, arith}
use Rattle.ek_call.specs.Primitives.{prim_of}
use Rattle.kernel_state.specs.Meaning.{state_of}
use Rattle.kernel_state.proofs.ProcessCalls.{told_past}
use Rattle.kernel_state.proofs.setting.told_of_one.Goals as goal

pub returns-then-p-count : goal.returns-then-p-count
returns-then-p-count c = c.nil.ensures ∙ told_past (prim_of c.args.prim) (state_of c.args.kernel.now) c.args.p (omega (arith, c.if-p-count.true, c.count.ensures.count))
