use Rattle.sink_printer.proofs.Printing.{prints_then}
use Rattle.trace_print.proofs.text.quoted.Goals as goal

pub returns : goal.returns
returns g c = prints_then c.put_byte.ensures (prints_then c.unquoted.ensures c.put_byte-2.ensures)
