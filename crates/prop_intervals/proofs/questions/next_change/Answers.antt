use Rattle.std.proofs.Common.{◌∙◌, option_map, arith}
use Rattle.ek_types.specs.Property.{number_of}
use Rattle.prop_intervals.specs.Runs.{sets_of}
use Rattle.prop_intervals.specs.Sets.{changes_of}
use Rattle.prop_intervals.proofs.PartLemmas.{no_next_before}
use Rattle.prop_intervals.proofs.OtherLemmas.{next_other}
use Rattle.prop_intervals.proofs.questions.next_change.Goals as goal

pub returns-then-i-to : goal.returns-then-i-to
returns-then-i-to c = no_next_before c.args.i c.args.to (changes_of (option_map number_of c.args.name) (sets_of c.args.tree.now)) (omega arith)

pub returns : goal.returns
returns c = c.first_other.ensures ∙ next_other (option_map number_of c.args.name) c.args.tree.now c.find-run.result.set.now c.args.i c.args.to _ _ c.find-run.ensures.exact c.requires.apart c.requires.within
