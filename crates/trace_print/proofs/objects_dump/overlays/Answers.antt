use Rattle.std.proofs.Common.{arith}
use Rattle.overlay_set.specs.Numbered.{no_overlay}
use Rattle.buffer_table.specs.Kept.{editor_of}
use Rattle.trace_print.specs.Dumped.{overlay_line}
use Rattle.trace_print.proofs.Numbered.{one_more, all_lines, item_there}
use Rattle.sink_printer.proofs.Printing.{prints_then, prints_same, prints_nothing}
use Rattle.trace_print.proofs.objects_dump.overlays.Goals as goal

pub loop-k-init : goal.loop-k-init
loop-k-init g c = prints_nothing

pub loop-k-preserved : goal.loop-k-preserved
loop-k-preserved g c = prints_same (one_more (overlay_line c.args.names.now.symbols.now (editor_of c.args.names.now.editor.now)) ((editor_of c.args.names.now.editor.now).marks.overlays) c.loop-k.k _ (item_there ((editor_of c.args.names.now.editor.now).marks.overlays) c.loop-k.k no_overlay (omega (arith, c.overlay_count-k-end.ensures, c.loop-k-test.true)))) (prints_then c.loop-k.invariant c.overlay_line.ensures)

pub returns : goal.returns
returns g c = prints_same (all_lines (overlay_line c.args.names.now.symbols.now (editor_of c.args.names.now.editor.now)) ((editor_of c.args.names.now.editor.now).marks.overlays) c.loop-k.k (omega (arith, c.overlay_count-k-end.ensures, c.loop-k-test.false))) c.loop-k.invariant
