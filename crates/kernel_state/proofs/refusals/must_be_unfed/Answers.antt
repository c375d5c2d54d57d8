use Rattle.std.proofs.Common.{not, ap, ◌∙◌}
use Rattle.editor_model.specs.Values.{CodingFixed}
use Rattle.editor_model.specs.Answers.{refuse}
use Rattle.plain_machine.specs.Arguments.{is_fed}
use Rattle.kernel_state.specs.Meaning.{state_of}
use Rattle.kernel_state.proofs.refusals.must_be_unfed.Goals as goal

pub returns : goal.returns
returns c = c.must.ensures ∙ ap (λ b. refuse CodingFixed (not b)) (c.is_fed.ensures ∙ ap (is_fed (state_of c.args.kernel.now)) c.process.ensures)
