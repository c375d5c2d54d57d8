use Rattle.std.proofs.Common.{arith}
use Rattle.trace_print.specs.Dumped.{process_line}
use Rattle.trace_print.specs.Standing.{state_of}
use Rattle.trace_print.proofs.Numbered.{one_more, all_lines}
use Rattle.sink_printer.proofs.Printing.{prints_then, prints_same, prints_nothing}
use Rattle.trace_print.proofs.objects_dump.processes.Goals as goal

pub loop-p-init : goal.loop-p-init
loop-p-init g c = prints_nothing

pub loop-p-preserved : goal.loop-p-preserved
loop-p-preserved g c = prints_same (one_more (process_line (state_of c.args.names.now)) ((state_of c.args.names.now).processes) c.loop-p.p _ (c.get.ensures)) (prints_then c.loop-p.invariant c.process_line.ensures)

pub returns : goal.returns
returns g c = prints_same (all_lines (process_line (state_of c.args.names.now)) ((state_of c.args.names.now).processes) c.loop-p.p (omega (arith, c.count-p-end.ensures.count, c.loop-p-test.false))) c.loop-p.invariant
