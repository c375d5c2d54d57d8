use Rattle.std.proofs.Common.{sym, ◌∙◌, arith}
use Rattle.text_model.specs.Properties.{Cell}
use Rattle.plain_machine.specs.Natives.{set_was_made}
use Rattle.handler_code.specs.Counts.{program_with}
use Rattle.handler_code.proofs.Passing.{part_at, all_fails, all_alike}
use Rattle.handler_code.proofs.made.Made.has_text.Goals as goal

pub returns-then-not-has_properties : goal.returns-then-not-has_properties
returns-then-not-has_properties c =
    let at = part_at c.args.text.now c.loop-at.at c.props.result.now c.props.ensures in
    sym (all_fails (λ (x : Cell). set_was_made (program_with c.args.self.now) x.1) c.args.text.now c.loop-at.at (at.0, c.props.result.now) at.1 c.loop-at.invariant (sym c.has_properties.ensures ∙ c.if-not-has_properties.true))

pub loop-at-preserved : goal.loop-at-preserved
loop-at-preserved c = all_alike (set_was_made (program_with c.args.self.now)) c.args.text.now c.props.result.now c.loop-at.at c.run_end-at.result (omega (arith, c.run_end-at.ensures.behind)) (λ j from to. c.run_end-at.ensures.same j from to ∙ c.props.ensures) (sym c.has_properties.ensures ∙ c.if-not-has_properties.false) c.loop-at.invariant
