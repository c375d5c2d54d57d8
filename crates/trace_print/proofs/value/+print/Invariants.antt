use Rattle.std.proofs.Common.{map, take}
use Rattle.plain_machine.specs.Lines.{shown, spaced}
use Rattle.ek_types.specs.Listing.{items_of}
use Rattle.ek_call.specs.Meaning.{view}
use Rattle.sink_printer.specs.Printing.{Prints}
use Rattle.trace_print.specs.Standing.{state_of}
use Rattle.trace_print.proofs.value.+print.Given as goal

abbrev pub invariant-values-loop-i : goal.invariant-values-loop-i
invariant-values-loop-i g l = Prints g.K.Sink.state l.initial.out l.out (spaced (take l.i (map (shown l.names.symbols.now (state_of l.names)) (map view (items_of l.values)))))
