use Rattle.std.proofs.Common.{◌≡◌, ◌+◌, ◌*◌, ◌≤◌, length, drop}
use Rattle.plain_machine.specs.Arguments.{encoded}
use Rattle.kernel_state.proofs.words.encoded_length.Given as goal

abbrev pub invariant-loop-i : goal.invariant-loop-i
invariant-loop-i l = record {
  count : l.length + length (encoded (drop l.i l.text)) ≡ length (encoded l.text);
  few : l.length ≤ l.i * 4;
}
