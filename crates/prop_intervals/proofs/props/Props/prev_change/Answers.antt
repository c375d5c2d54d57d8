use Rattle.std.proofs.Common.{ap, ◌∙◌, length, option_map, arith}
use Rattle.text_model.specs.PropertyQuestions.{previous_change}
use Rattle.ek_types.specs.Property.{number_of}
use Rattle.prop_intervals.specs.Sets.{changes_of}
use Rattle.prop_intervals.proofs.SetLemmas.{length-sets_of}
use Rattle.prop_intervals.proofs.PartLemmas.{previous_part}
use Rattle.prop_intervals.proofs.props.Props.prev_change.Goals as goal

pub returns-clause-within : goal.returns-clause-within
returns-clause-within c = λ start h.
    let name = option_map number_of c.args.name in
    c.previous_change.ensures ∙ ap (λ sets. previous_change c.args.from c.args.i (changes_of name sets)) c.self.view_is ∙ previous_part name c.args.self.now start c.args.from c.args.i h

pub previous_change-requires-clause-within : goal.previous_change-requires-clause-within
previous_change-requires-clause-within c = omega (arith, length-sets_of c.self.inside.tree, ap length c.self.view_is, c.requires)
