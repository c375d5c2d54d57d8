use Rattle.std.proofs.Common.{◌∙◌}
use Rattle.sink_printer.proofs.Printing.{prints_then, prints_same}
use Rattle.trace_print.proofs.Telling.{fault_said}
use Rattle.trace_print.proofs.line.fault_words.Goals as goal

pub returns : goal.returns
returns g c = prints_same (fault_said c.args.fault _ _ (c.from.ensures ∙ c.number.ensures) (c.as_bytes.ensures.value ∙ c.name.ensures)) (prints_then c.count.ensures (prints_then c.put.ensures c.put-2.ensures))
