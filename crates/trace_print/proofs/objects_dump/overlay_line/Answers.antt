use Rattle.std.proofs.Common.{ap}
use Rattle.plain_machine.specs.Lines.{shown_set}
use Rattle.sink_printer.proofs.Printing.{prints_then, prints_same}
use Rattle.trace_print.proofs.objects_dump.overlay_line.Goals as goal

pub returns : goal.returns
returns g c =
    let set = prints_same (ap (shown_set c.args.names.now.symbols.now) c.overlay_props.ensures) c.property_set.ensures in
    prints_then c.put.ensures (prints_then c.count.ensures (prints_then c.put-2.ensures (prints_then c.overlay.ensures (prints_then c.put-3.ensures (prints_then set c.put-4.ensures)))))
