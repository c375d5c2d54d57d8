use Rattle.std.proofs.Common.{ℕ, ◌&&◌, ap, sym, ◌∙◌}
use Rattle.text_model.specs.Properties.{PropVal}
use Rattle.plain_machine.specs.Natives.{is_symbol_there, prop_was_made}
use Rattle.ek_types.specs.Property.{number_of, prop_of}
use Rattle.handler_code.specs.Counts.{program_with}
use Rattle.handler_code.proofs.Passing.{all_more, all_fails}
use Rattle.handler_code.proofs.made.Made.has_properties.Goals as goal

pub returns-then-not-has_symbol : goal.returns-then-not-has_symbol
returns-then-not-has_symbol c = sym (all_fails (λ (p : ℕ × PropVal). is_symbol_there (program_with c.args.self.now) p.0 && prop_was_made (program_with c.args.self.now) p.1) c.args.set.now c.loop-i.i (number_of c.at.result.0, prop_of c.at.result.1.now) c.at.ensures c.loop-i.invariant (ap (λ b. b && prop_was_made (program_with c.args.self.now) (prop_of c.at.result.1.now)) (sym c.has_symbol.ensures ∙ c.if-not-has_symbol.true)))

pub returns-then-not-has_property : goal.returns-then-not-has_property
returns-then-not-has_property c = sym (all_fails (λ (p : ℕ × PropVal). is_symbol_there (program_with c.args.self.now) p.0 && prop_was_made (program_with c.args.self.now) p.1) c.args.set.now c.loop-i.i (number_of c.at.result.0, prop_of c.at.result.1.now) c.at.ensures c.loop-i.invariant (ap (λ b. b && prop_was_made (program_with c.args.self.now) (prop_of c.at.result.1.now)) (sym c.has_symbol.ensures ∙ c.if-not-has_symbol.false) ∙ sym c.has_property.ensures ∙ c.if-not-has_property.true))

pub loop-i-preserved : goal.loop-i-preserved
loop-i-preserved c = all_more (λ (p : ℕ × PropVal). is_symbol_there (program_with c.args.self.now) p.0 && prop_was_made (program_with c.args.self.now) p.1) c.args.set.now c.loop-i.i (number_of c.at.result.0, prop_of c.at.result.1.now) c.at.ensures c.loop-i.invariant (ap (λ b. b && prop_was_made (program_with c.args.self.now) (prop_of c.at.result.1.now)) (sym c.has_symbol.ensures ∙ c.if-not-has_symbol.false) ∙ sym c.has_property.ensures ∙ c.if-not-has_property.false)
