use Rattle.std.proofs.Common.{◌≡◌, ◌++◌, true, drop, string_bytes}
use Rattle.std.specs.List.{list_all}
use Rattle.plain_machine.specs.Arguments.{encoded, is_plain}
use Rattle.kernel_state.proofs.words.word.Given as goal

abbrev pub invariant-loop-i : goal.invariant-loop-i
invariant-loop-i l = record {
  bytes : string_bytes l.word ++ encoded (drop l.i l.text) ≡ encoded l.text;
  plain : list_all is_plain (drop l.i l.text) ≡ true;
}
