use Rattle.std.proofs.Common.{◌≢◌, length, arith}
use Rattle.sink_printer.proofs.Printing.{prints_then, prints_same}
use Rattle.trace_print.proofs.Spaced.{set_bracketed}
use Rattle.trace_print.proofs.property.property_set.Goals as goal

pub returns-else-len-eq0 : goal.returns-else-len-eq0
returns-else-len-eq0 g c =
    let some : length c.args.set.now ≢ 0 = omega (arith, c.len.ensures.exact, c.if-len-eq0.false) in
    prints_same (set_bracketed c.args.symbols.now c.args.set.now some) (prints_then c.put-else-len-eq0.ensures (prints_then c.pairs.ensures c.put-else-len-eq0-2.ensures))
