use Rattle.sink_printer.proofs.Printing.{prints_then}
use Rattle.trace_print.proofs.objects_dump.marker_line.Goals as goal

pub returns : goal.returns
returns g c = prints_then c.put.ensures (prints_then c.count.ensures (prints_then c.put-2.ensures (prints_then c.marker.ensures c.put-3.ensures)))
