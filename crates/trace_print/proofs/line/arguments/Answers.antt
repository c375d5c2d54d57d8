use Rattle.std.proofs.Common.{arith}
use Rattle.plain_machine.specs.Lines.{shown}
use Rattle.ek_types.specs.Listing.{items_of}
use Rattle.trace_print.specs.Standing.{state_of}
use Rattle.sink_printer.proofs.Printing.{prints_then, prints_same, prints_nothing}
use Rattle.trace_print.proofs.Telling.{led_some, led_none}
use Rattle.trace_print.proofs.line.arguments.Goals as goal

pub returns-then-len-gt0 : goal.returns-then-len-gt0
returns-then-len-gt0 g c =
    prints_same (led_some (shown c.args.names.now.symbols.now (state_of c.args.names.now)) (items_of c.args.args.now) (omega (arith, c.len.ensures, c.if-len-gt0.true))) (prints_then c.put.ensures c.values.ensures)

pub returns-else-len-gt0 : goal.returns-else-len-gt0
returns-else-len-gt0 g c =
    prints_same (led_none (shown c.args.names.now.symbols.now (state_of c.args.names.now)) (items_of c.args.args.now) (omega (arith, c.len.ensures, c.if-len-gt0.false))) prints_nothing
