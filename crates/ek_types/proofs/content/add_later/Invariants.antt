use Rattle.std.proofs.Common.{◌≡◌, ◌++◌, take}
use Rattle.ek_types.specs.Runs.{later_runs}
use Rattle.ek_types.proofs.content.add_later.Given as goal

abbrev pub invariant-loop-run : goal.invariant-loop-run
invariant-loop-run l = l.runs.items ≡ l.initial.runs.items ++ later_runs l.by (take l.run-index l.from)
