use Rattle.std.proofs.Common.{◌≡◌, ℕ, ◌+◌, ◌-◌, ◌≤◌, List, length, drop}
use Rattle.plain_machine.specs.Drill.{pieces}
use Rattle.line_drill.proofs.counted_reads.piece_count.Given as goal

abbrev pub invariant-loop-left : goal.invariant-loop-left
invariant-loop-left l = record {
  exact : (output : List ℕ) → l.bytes ≡ length output → l.count + length (pieces l.left l.size (drop (l.bytes - l.left) output)) ≡ length (pieces l.bytes 1 output);
  few : l.count + l.left ≤ l.bytes;
  some : 1 ≤ l.size;
  small : l.size ≤ 7;
}

abbrev pub decreases-loop-left : goal.decreases-loop-left
decreases-loop-left l = l.left
