use Rattle.std.proofs.Common.{◌≡◌, ◌-◌, ◌++◌}
use Rattle.plain_machine.specs.Drill.{output_from}
use Rattle.line_drill.proofs.drill_child.output.Given as goal

abbrev pub invariant-loop-k : goal.invariant-loop-k
invariant-loop-k l = l.all.items ++ output_from l.k (l.lines - l.k) ≡ output_from 0 l.lines
