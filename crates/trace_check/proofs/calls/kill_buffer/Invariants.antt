use Rattle.std.proofs.Common.{◌≡◌, ◌-◌, ◌∷◌, ◌++◌, map, drop, length}
use Rattle.plain_machine.specs.Items.{Delete, KillBuffer as KillsBuffer}
use Rattle.trace_check.specs.Meaning.{list_of, target_of}
use Rattle.trace_check.proofs.calls.kill_buffer.Given as goal

abbrev pub invariant-loop-i : goal.invariant-loop-i
invariant-loop-i g l = list_of l.work ≡ map Delete (drop (length l.doomed.items - l.i) l.doomed.items) ++ (KillsBuffer l.buffer (target_of l.fn.target) ∷ list_of l.fn.work)
