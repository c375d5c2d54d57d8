use Rattle.std.proofs.Common.{arith}
use Rattle.trace_print.specs.Standing.{state_of}
use Rattle.sink_printer.proofs.Printing.{prints_then, prints_same, prints_nothing}
use Rattle.trace_print.proofs.Objects.{process_shown, no_process}
use Rattle.trace_print.proofs.object.process.Goals as goal

pub returns-then-p-count : goal.returns-then-p-count
returns-then-p-count g c =
    prints_same (process_shown (state_of c.args.names.now) c.args.p c.get.result.now c.name.result.now.items c.get.ensures c.name.ensures) (prints_then c.put.ensures (prints_then c.unquoted.ensures c.put_byte.ensures))

pub returns-else-p-count : goal.returns-else-p-count
returns-else-p-count g c = prints_same (no_process (state_of c.args.names.now) c.args.p (omega (arith, c.count.ensures.count, c.if-p-count.false))) prints_nothing
