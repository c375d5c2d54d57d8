use Rattle.std.proofs.Common.{◌≡◌, ◌≤◌, length}
use Rattle.undo_list.proofs.Cutting.{all_cut}
use Rattle.undo_list.proofs.records.Records.cut.Given as goal

abbrev pub invariant-groups : goal.invariant-groups
invariant-groups l = record {
  same : all_cut l.self.entries ≡ all_cut l.initial.self.entries;
  spare : l.initial.self.spare ≤ l.self.spare;
}

abbrev pub decreases-groups : goal.decreases-groups
decreases-groups l = length l.self.entries
