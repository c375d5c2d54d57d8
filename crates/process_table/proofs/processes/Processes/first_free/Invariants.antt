use Rattle.std.proofs.Common.{◌≡◌, ◌+◌, ◌-◌, length}
use Rattle.plain_machine.specs.Arguments.{free_name}
use Rattle.process_table.proofs.processes.Processes.first_free.Given as goal

-- the name is the first free one from here on
abbrev pub invariant-loop-n : goal.invariant-loop-n
invariant-loop-n l = free_name (length l.self) 1 l.self l.name.items ≡ free_name (length l.self + 1 - l.n) l.n l.self l.name.items
