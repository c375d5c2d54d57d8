use Rattle.std.proofs.Common.{◌≡◌, ◌≤◌, length}
use Rattle.text_model.specs.Undo.{without_oldest_group}
use Rattle.undo_list.proofs.records.Records.drop_oldest_group.Given as goal

abbrev pub invariant-records : goal.invariant-records
invariant-records l = record {
  same : without_oldest_group l.self.entries ≡ without_oldest_group l.initial.self.entries;
  spare : l.initial.self.spare ≤ l.self.spare;
}

abbrev pub decreases-records : goal.decreases-records
decreases-records l = length l.self.entries
