use Rattle.std.proofs.Common.{arith}
use Rattle.sink_printer.proofs.Printing.{prints_then, prints_same}
use Rattle.trace_print.proofs.Stretches.{run_said}
use Rattle.trace_print.proofs.string.run.Goals as goal

pub returns-then-len-gt0 : goal.returns-then-len-gt0
returns-then-len-gt0 g c =
    prints_same (run_said c.args.symbols.now c.args.set.now c.args.from c.args.to (omega (arith, c.len.ensures.exact, c.if-len-gt0.true)))
    (prints_then c.put.ensures (prints_then c.count.ensures (prints_then c.put-then-len-gt0.ensures (prints_then c.count-then-len-gt0.ensures (prints_then c.put-then-len-gt0-2.ensures c.property_set.ensures)))))
