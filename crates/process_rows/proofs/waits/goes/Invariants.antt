use Rattle.std.proofs.Common.{◌≡◌}
use Rattle.process_rows.proofs.waits.goes.Given as goal

abbrev pub invariant-loop-event : goal.invariant-loop-event
invariant-loop-event g l = l.wait.room ≡ l.case.room
