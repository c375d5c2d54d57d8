use Rattle.sink_printer.proofs.Printing.{prints_same}
use Rattle.trace_print.proofs.text.encoded.Goals as goal

pub returns : goal.returns
returns g c = prints_same c.show-size.ensures.bytes c.put.ensures
