use Rattle.std.proofs.Common.{◌&&◌, not, ap, ◌∙◌}
use Rattle.plain_machine.specs.Arguments.{is_closed}
use Rattle.kernel_state.specs.Meaning.{state_of}
use Rattle.kernel_state.proofs.refusals.is_open.Goals as goal

pub returns-then-is_running : goal.returns-then-is_running
returns-then-is_running c =
    ap not c.is_closed.ensures ∙ ap (λ b. b && not (is_closed (state_of c.args.kernel.now) c.args.p)) c.if-is_running.ensures

pub returns-else-is_running : goal.returns-else-is_running
returns-else-is_running c =
    c.if-is_running.false ∙ ap (λ b. b && not (is_closed (state_of c.args.kernel.now) c.args.p)) c.if-is_running.ensures
