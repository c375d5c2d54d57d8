use Rattle.sink_printer.proofs.Printing.{prints_then}
use Rattle.journal_text.proofs.line.named.Goals as goal

pub returns : goal.returns
returns g c = prints_then c.put.ensures c.number.ensures
