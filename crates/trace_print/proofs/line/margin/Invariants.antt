use Rattle.trace_print.specs.Kinds.{margin}
use Rattle.sink_printer.specs.Printing.{Prints}
use Rattle.trace_print.proofs.line.margin.Given as goal

abbrev pub invariant-level : goal.invariant-level
invariant-level g l = Prints g.K.Sink.state l.initial.out l.out (margin l.counter)
