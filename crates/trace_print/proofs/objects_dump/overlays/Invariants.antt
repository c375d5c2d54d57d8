use Rattle.std.proofs.Common.{take, flat_map}
use Rattle.std.specs.List.{enumerate_from}
use Rattle.buffer_table.specs.Kept.{editor_of}
use Rattle.trace_print.specs.Dumped.{overlay_line}
use Rattle.sink_printer.specs.Printing.{Prints}
use Rattle.trace_print.proofs.objects_dump.overlays.Given as goal

abbrev pub invariant-loop-k : goal.invariant-loop-k
invariant-loop-k g l = Prints g.K.Sink.state l.initial.out l.out (flat_map (overlay_line l.names.symbols.now (editor_of l.names.editor.now)) (enumerate_from 0 (take l.k (editor_of l.names.editor.now).marks.overlays)))
