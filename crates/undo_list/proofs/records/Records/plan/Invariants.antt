use Rattle.std.proofs.Common.{◌≡◌, ◌+◌, ◌*◌, ◌^◌, ◌-◌, ◌<◌, ◌≤◌, drop, length, map}
use Rattle.undo_list.specs.Records.{entry_of}
use Rattle.undo_list.proofs.Walking.{walked}
use Rattle.undo_list.proofs.records.Records.plan.Given as goal

abbrev pub invariant-walk : goal.invariant-walk
invariant-walk l = record {
  same : walked (drop l.i (map entry_of l.self-inside.entries.items)) l.walk ≡ walked (drop l.start (map entry_of l.self-inside.entries.items)) l.initial.walk;
  inside : l.i ≤ length l.self-inside.entries.items;
  max : l.walk.max < 2 ^ 64 * (l.i + 1);
  count : l.walk.plan.count ≤ l.i;
}

abbrev pub decreases-walk : goal.decreases-walk
decreases-walk l = length l.self-inside.entries.items - l.i
