use Rattle.std.proofs.Common.{◌≡◌, ◌+◌, ◌≤◌, length, drop}
use Rattle.plain_machine.specs.Symbols.{with_names}
use Rattle.kernel_state.proofs.program.symbols_with.Given as goal

abbrev pub invariant-loop-i : goal.invariant-loop-i
invariant-loop-i g l = record {
  names : with_names l.symbols (drop l.i (g.N.Natives.names l.natives)) ≡ with_names l.script.symbols (g.N.Natives.names l.natives);
  few : length l.symbols ≤ 2147483648 + l.i;
}
