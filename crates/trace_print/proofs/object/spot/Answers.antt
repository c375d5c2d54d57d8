use Rattle.sink_printer.proofs.Printing.{prints_then}
use Rattle.trace_print.proofs.object.spot.Goals as goal

pub returns-in-Some : goal.returns-in-Some
returns-in-Some g c =
    rw c.in-Some.is (prints_then c.put.ensures (prints_then c.position.ensures (prints_then c.put-in-Some.ensures (prints_then c.buffer_name.ensures c.put_byte.ensures))))

pub returns-in-None : goal.returns-in-None
returns-in-None g c = rw c.in-None.is c.put-in-None.ensures
