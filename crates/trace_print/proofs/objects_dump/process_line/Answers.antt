use Rattle.std.proofs.Common.{ap}
use Rattle.plain_machine.specs.Lines.{shown_status}
use Rattle.sink_printer.proofs.Printing.{prints_then, prints_same}
use Rattle.trace_print.proofs.objects_dump.process_line.Goals as goal

pub returns : goal.returns
returns g c =
    let status = prints_same (ap shown_status c.status.ensures) c.status-2.ensures in
    prints_then c.put.ensures (prints_then c.count.ensures (prints_then c.put-2.ensures (prints_then c.process.ensures (prints_then c.put-3.ensures (prints_then status c.put-4.ensures)))))
