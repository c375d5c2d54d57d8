use Rattle.std.proofs.Common.{◌≡◌, drop}
use Rattle.plain_machine.specs.Arguments.{find_process}
use Rattle.process_table.proofs.processes.Processes.find.Given as goal

-- what is left finds what the whole does
abbrev pub invariant-loop-p : goal.invariant-loop-p
invariant-loop-p l = find_process 0 l.self-inside.list.items l.name.items ≡ find_process l.p (drop l.p l.self-inside.list.items) l.name.items
