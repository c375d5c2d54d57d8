use Rattle.std.proofs.Common.{◌≡◌, ◌++◌, drop}
use Rattle.kernel_state.proofs.LastBuffers.{running_from}
use Rattle.kernel_state.proofs.buffers.running_in.Given as goal

abbrev pub invariant-loop-p : goal.invariant-loop-p
invariant-loop-p l = l.found.items ++ running_from l.p l.buffer (drop l.p l.kernel.processes) ≡ running_from 0 l.buffer l.kernel.processes
