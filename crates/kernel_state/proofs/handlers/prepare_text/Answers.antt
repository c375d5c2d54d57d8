use Rattle.std.proofs.Common.{◌∙◌}
use Rattle.kernel_state.specs.Meaning.{state_of}
use Rattle.kernel_state.proofs.Inserting.{text_prepared_at}
use Rattle.kernel_state.proofs.handlers.prepare_text.Goals as goal

pub returns-clause-prepared : goal.returns-clause-prepared
returns-clause-prepared c =
    c.prepare_output-prepared.ensures
    ∙ text_prepared_at (state_of c.args.kernel.now) c.args.p c.in-Some.buffer c.mark-mark.result c.get.result.now c.args.text c.in-Some.ensures c.get.ensures c.mark-mark.ensures
