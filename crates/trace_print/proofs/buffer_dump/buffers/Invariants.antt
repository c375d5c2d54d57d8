use Rattle.std.proofs.Common.{take, flat_map}
use Rattle.std.specs.List.{enumerate_from}
use Rattle.plain_machine.specs.Lines.{shown_live}
use Rattle.buffer_table.specs.Kept.{editor_of}
use Rattle.sink_printer.specs.Printing.{Prints}
use Rattle.trace_print.proofs.buffer_dump.buffers.Given as goal

abbrev pub invariant-loop-id : goal.invariant-loop-id
invariant-loop-id g l = Prints g.K.Sink.state l.initial.out l.out (flat_map (shown_live l.names.symbols.now (editor_of l.names.editor.now).current) (enumerate_from 0 (take l.id (editor_of l.names.editor.now).buffers)))
