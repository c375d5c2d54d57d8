use Rattle.std.proofs.Common.{◌≡◌, map, take, string_bytes}
use Rattle.ek_call.specs.Meaning.{view}
use Rattle.kernel_steps.specs.Processes.{bytes_of}
use Rattle.kernel_state.proofs.words.words.Given as goal

abbrev pub invariant-loop-value : goal.invariant-loop-value
invariant-loop-value l = map string_bytes l.words.items ≡ map bytes_of (map view (take l.value-index l.values))
