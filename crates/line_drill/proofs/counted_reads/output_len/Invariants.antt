use Rattle.std.proofs.Common.{◌≡◌, ◌+◌, ◌-◌, ◌*◌, ◌≤◌, length}
use Rattle.plain_machine.specs.Drill.{output_from}
use Rattle.line_drill.proofs.counted_reads.output_len.Given as goal

abbrev pub invariant-loop-k : goal.invariant-loop-k
invariant-loop-k l = record {
  exact : l.all + length (output_from l.k (l.lines - l.k)) ≡ length (output_from 0 l.lines);
  few : l.all ≤ 14 * l.k;
}
