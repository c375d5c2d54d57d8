use Rattle.std.proofs.Common.{map, take}
use Rattle.plain_machine.specs.Lines.{spaced}
use Rattle.trace_print.specs.Pairs.{pair_word}
use Rattle.sink_printer.specs.Printing.{Prints}
use Rattle.trace_print.proofs.property.pairs.Given as goal

abbrev pub invariant-loop-i : goal.invariant-loop-i
invariant-loop-i g l = Prints g.K.Sink.state l.initial.out l.out (spaced (take l.i (map (pair_word l.symbols) l.set)))
