use Rattle.std.proofs.Common.{◌≤◌, ◌-◌, length, take, flat_map}
use Rattle.plain_machine.specs.Lines.{shown_ch}
use Rattle.sink_printer.specs.Printing.{Prints}
use Rattle.trace_print.proofs.text.unquoted.Given as goal

abbrev pub invariant-loop-i : goal.invariant-loop-i
invariant-loop-i g l = record {
  within : l.i ≤ length (g.T.Characters.chars l.text);
  prints : Prints g.K.Sink.state l.initial.out l.out (flat_map shown_ch (take l.i (g.T.Characters.chars l.text)));
}

abbrev pub decreases-loop-i : goal.decreases-loop-i
decreases-loop-i g l = length (g.T.Characters.chars l.text) - l.i
