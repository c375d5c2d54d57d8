use Rattle.std.proofs.Common.{◌≡◌, ◌++◌, vec_capacity}
use Rattle.process_table.proofs.place.moved.Given as goal

-- those moved and those left are the processes that were given
abbrev pub invariant-loop-process : goal.invariant-loop-process
invariant-loop-process l = (l.list.items ++ l.process-iterator.rest.items ≡ l.fn.processes.items) × (vec_capacity l.list ≡ vec_capacity l.fn.room)
