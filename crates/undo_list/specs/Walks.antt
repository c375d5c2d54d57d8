-- One step of the walk of the code over the records of some groups. It serves the proof of `Records::plan`
-- alone: the clause there says what it comes to in the words of the definitions, by groups and their trial.
use Rattle.std.specs.Prelude.{◌+◌, ◌-◌, if◌then◌else◌}
use Rattle.text_model.specs.Undo.{Entry, is_boundary, max_after}
use Rattle.undo_list.specs.declared.walk.Walk.{Walk}

-- one record more
abbrev pub stepped : Entry → Walk → Walk
stepped e w = record {
  left = if is_boundary e.what then w.left - 1 else w.left;
  min = w.min;
  max = max_after w.max e.what;
  plan = record {
    first = w.plan.first;
    last = e.serial;
    count = if is_boundary e.what then w.plan.count
        else w.plan.count + 1;
  };
}
