use Rattle.std.proofs.Common.{take, flat_map}
use Rattle.std.specs.List.{enumerate_from}
use Rattle.trace_print.specs.Dumped.{process_line}
use Rattle.sink_printer.specs.Printing.{Prints}
use Rattle.trace_print.specs.Standing.{state_of}
use Rattle.trace_print.proofs.objects_dump.processes.Given as goal

abbrev pub invariant-loop-p : goal.invariant-loop-p
invariant-loop-p g l = Prints g.K.Sink.state l.initial.out l.out (flat_map (process_line (state_of l.names)) (enumerate_from 0 (take l.p (state_of l.names).processes)))
