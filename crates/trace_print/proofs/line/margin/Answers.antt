use Rattle.sink_printer.proofs.Printing.{prints_then, prints_same, prints_nothing}
use Rattle.trace_print.proofs.Telling.{margin_more}
use Rattle.trace_print.proofs.line.margin.Goals as goal

pub level-init : goal.level-init
level-init g c = prints_nothing

pub level-preserved : goal.level-preserved
level-preserved g c = prints_same (margin_more c.level.counter) (prints_then c.level.invariant c.put.ensures)
