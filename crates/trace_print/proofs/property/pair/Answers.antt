use Rattle.sink_printer.proofs.Printing.{prints_then}
use Rattle.trace_print.proofs.property.pair.Goals as goal

pub returns : goal.returns
returns g c = prints_then c.symbol.ensures (prints_then c.put.ensures c.property.ensures)
