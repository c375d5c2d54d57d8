use Rattle.std.proofs.Common.{◌≡◌, drop}
use Rattle.std.specs.List.{list_all}
use Rattle.plain_machine.specs.Arguments.{is_plain}
use Rattle.kernel_state.proofs.words.are_plain.Given as goal

abbrev pub invariant-loop-i : goal.invariant-loop-i
invariant-loop-i l = list_all is_plain (drop l.i l.text) ≡ list_all is_plain l.text
