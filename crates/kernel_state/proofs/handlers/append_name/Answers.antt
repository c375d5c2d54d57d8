use Rattle.std.proofs.Common.{◌++◌, ap, ◌∙◌, arith}
use Rattle.std.proofs.lemmas.Result.{on_ok_weaker}
use Rattle.kernel_state.specs.Meaning.{state_of}
use Rattle.kernel_state.proofs.Inserting.{name_here, name_nowhere}
use Rattle.kernel_state.proofs.handlers.append_name.Goals as goal

pub returns-then-p-count : goal.returns-then-p-count
returns-then-p-count c =
    let s = state_of c.args.kernel.now in
    on_ok_weaker c.extend.result (λ e. e ∙ ap (λ l. c.args.text.now.items ++ l) (c.name.ensures ∙ name_here s c.args.p c.get.result.now c.get.ensures)) c.extend.ensures.ok

pub returns-else-p-count : goal.returns-else-p-count
returns-else-p-count c = name_nowhere (state_of c.args.kernel.now) c.args.p c.args.text.now.items (omega arith)
