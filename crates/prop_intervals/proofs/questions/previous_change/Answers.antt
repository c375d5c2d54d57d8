use Rattle.std.proofs.Common.{◌∙◌, option_map, arith}
use Rattle.ek_types.specs.Property.{number_of}
use Rattle.prop_intervals.specs.Runs.{sets_of}
use Rattle.prop_intervals.specs.Sets.{changes_of}
use Rattle.prop_intervals.proofs.PartLemmas.{no_previous_behind}
use Rattle.prop_intervals.proofs.OtherLemmas.{previous_other}
use Rattle.prop_intervals.proofs.questions.previous_change.Goals as goal

pub returns-then-i-from : goal.returns-then-i-from
returns-then-i-from c = no_previous_behind c.args.from c.args.i (changes_of (option_map number_of c.args.name) (sets_of c.args.tree.now)) (omega arith)

pub returns : goal.returns
returns c = c.last_other.ensures ∙ previous_other (option_map number_of c.args.name) c.args.tree.now c.find-run.result.set.now c.args.from c.args.i _ _ (omega (arith, c.if-i-from.false)) c.find-run.ensures.exact c.requires.apart
