use Rattle.std.proofs.Common.{ap, sym}
use Rattle.ek_call.specs.Meaning.{reply_of}
use Rattle.trace_print.specs.Kinds.{reply_words}
use Rattle.trace_print.specs.Standing.{state_of}
use Rattle.sink_printer.proofs.Printing.{prints_then, prints_same}
use Rattle.trace_print.proofs.line.reply_words.Goals as goal

pub returns-in-Value : goal.returns-in-Value
returns-in-Value g c = prints_same (ap (λ r. reply_words c.args.names.now.symbols.now (state_of c.args.names.now) (reply_of r)) (sym c.in-Value.is)) (prints_then c.put.ensures c.value.ensures)

pub returns-in-Fault : goal.returns-in-Fault
returns-in-Fault g c = prints_same (ap (λ r. reply_words c.args.names.now.symbols.now (state_of c.args.names.now) (reply_of r)) (sym c.in-Fault.is)) (prints_then c.put-in-Fault.ensures c.fault_words.ensures)
