use Rattle.std.proofs.Common.{◌≡◌, ◌++◌, drop}
use Rattle.plain_machine.specs.Arguments.{encoded}
use Rattle.kernel_state.proofs.words.encoded.Given as goal

abbrev pub invariant-loop-i : goal.invariant-loop-i
invariant-loop-i l = l.bytes.items ++ encoded (drop l.i l.text) ≡ encoded l.text
