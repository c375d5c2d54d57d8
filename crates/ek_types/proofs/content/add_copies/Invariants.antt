use Rattle.std.proofs.Common.{◌≡◌, ◌++◌, take}
use Rattle.ek_types.proofs.content.add_copies.Given as goal

abbrev pub invariant-loop-run : goal.invariant-loop-run
invariant-loop-run l = l.runs.items ≡ l.initial.runs.items ++ take l.run-index l.from
