use Rattle.std.proofs.Common.{◌≡◌, ◌≤◌, ◌-◌, ◌++◌, List, ℕ, length, drop}
use Rattle.text_model.specs.Properties.{stretches, same_set}
use Rattle.plain_machine.specs.Lines.{run_words}
use Rattle.sink_printer.specs.Printing.{Prints}
use Rattle.trace_print.specs.Strings.{led}
use Rattle.trace_print.proofs.string.runs.Given as goal

abbrev pub invariant-loop-at : goal.invariant-loop-at
invariant-loop-at g l = record {
  printed : List ℕ;
  prints : Prints g.K.Sink.state l.initial.out l.out printed;
  rest : printed ++ led (run_words l.symbols (stretches same_set l.at (drop l.at (g.T.Sets.sets l.text)))) ≡ led (run_words l.symbols (stretches same_set 0 (g.T.Sets.sets l.text)));
  within : l.at ≤ length (g.T.Sets.sets l.text);
}

abbrev pub decreases-loop-at : goal.decreases-loop-at
decreases-loop-at g l = length (g.T.Sets.sets l.text) - l.at
