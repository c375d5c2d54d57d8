use Rattle.sink_printer.proofs.Printing.{prints_then}
use Rattle.journal_text.proofs.line.line.Goals as goal

pub returns : goal.returns
returns g c = prints_then c.ask.ensures (prints_then c.put.ensures (prints_then c.answer.ensures c.put_byte.ensures))
