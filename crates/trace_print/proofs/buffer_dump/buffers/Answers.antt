use Rattle.std.proofs.Common.{arith}
use Rattle.std.proofs.lemmas.List.{length-map}
use Rattle.std.specs.Prelude.{None, option_map}
use Rattle.plain_machine.specs.Lines.{shown_live}
use Rattle.buffer_table.specs.Kept.{editor_of, live_of}
use Rattle.trace_print.proofs.Numbered.{one_more, all_lines, item_there}
use Rattle.sink_printer.proofs.Printing.{prints_then, prints_same, prints_nothing}
use Rattle.trace_print.proofs.buffer_dump.buffers.Goals as goal

pub loop-id-init : goal.loop-id-init
loop-id-init g c = prints_nothing

pub loop-id-preserved : goal.loop-id-preserved
loop-id-preserved g c =
    let e = c.args.names.now.editor.now in
    prints_same (one_more (shown_live c.args.names.now.symbols.now (editor_of e).current) (editor_of e).buffers c.loop-id.id _ (item_there (editor_of e).buffers c.loop-id.id None (omega (arith, c.count-id-end.ensures.number, c.loop-id-test.true, length-map e.buffers (option_map (live_of e.pool)))))) (prints_then c.loop-id.invariant c.numbered_buffer.ensures)

pub returns : goal.returns
returns g c =
    let e = c.args.names.now.editor.now in
    prints_same (all_lines (shown_live c.args.names.now.symbols.now (editor_of e).current) (editor_of e).buffers c.loop-id.id (omega (arith, c.count-id-end.ensures.number, c.loop-id-test.false, length-map e.buffers (option_map (live_of e.pool))))) c.loop-id.invariant
