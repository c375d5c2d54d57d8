use Rattle.std.proofs.Common.{◌≡◌, ◌-◌, ◌≤◌, map}
use Rattle.std.specs.Prelude.{not}
use Rattle.text_model.specs.Properties.{edited, same_list, same_set}
use Rattle.prop_intervals.specs.Edits.{edit_of}
use Rattle.prop_intervals.specs.Runs.{sets_of, AreApart}
use Rattle.prop_intervals.proofs.ChangeLemmas.{part_of}
use Rattle.prop_intervals.proofs.change.edited_runs.Given as goal

abbrev pub invariant-loop-i : goal.invariant-loop-i
invariant-loop-i l = record {
  from : l.from ≤ l.i;
  to : l.i ≤ l.to;
  sets : sets_of l.runs ≡ map (edited (edit_of l.edit)) (part_of l.from l.i (sets_of l.tree));
  apart : AreApart l.runs;
  changed : l.changed ≡ not (same_list same_set (part_of l.from l.i (sets_of l.tree)) (sets_of l.runs));
}

abbrev pub decreases-loop-i : goal.decreases-loop-i
decreases-loop-i l = l.to - l.i
