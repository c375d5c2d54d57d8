use Rattle.std.proofs.Common.{ap, ◌∙◌, length, option_map, arith}
use Rattle.text_model.specs.PropertyQuestions.{next_change}
use Rattle.ek_types.specs.Property.{number_of}
use Rattle.prop_intervals.specs.Sets.{changes_of}
use Rattle.prop_intervals.proofs.SetLemmas.{length-sets_of}
use Rattle.prop_intervals.proofs.PartLemmas.{next_part}
use Rattle.prop_intervals.proofs.props.Props.next_change.Goals as goal

pub returns-clause-within : goal.returns-clause-within
returns-clause-within c = λ end h.
    let name = option_map number_of c.args.name in
    c.next_change.ensures ∙ ap (λ sets. next_change c.args.i c.args.to (changes_of name sets)) c.self.view_is ∙ next_part name c.args.self.now c.args.i c.args.to end h

pub next_change-requires-clause-within : goal.next_change-requires-clause-within
next_change-requires-clause-within c = omega (arith, length-sets_of c.self.inside.tree, ap length c.self.view_is, c.requires)
