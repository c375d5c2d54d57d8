use Rattle.buffer_core.proofs.UndoLemmas.{NoChange}
use Rattle.buffer_core.proofs.undoing.next_change.Given as goal

abbrev pub invariant-loop-i : goal.invariant-loop-i
invariant-loop-i l = NoChange l.from l.i l.records.state.entries
