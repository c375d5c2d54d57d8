use Rattle.std.proofs.Common.{map, take}
use Rattle.plain_machine.specs.Lines.{spaced, symbol_name}
use Rattle.ek_types.specs.Listing.{items_of}
use Rattle.ek_types.specs.Property.{number_of}
use Rattle.sink_printer.specs.Printing.{Prints}
use Rattle.trace_print.proofs.property.symbol_list.Given as goal

abbrev pub invariant-loop-i : goal.invariant-loop-i
invariant-loop-i g l = Prints g.K.Sink.state l.initial.out l.out (spaced (take l.i (map (symbol_name l.symbols) (map number_of (items_of l.list)))))
