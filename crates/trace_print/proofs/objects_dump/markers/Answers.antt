use Rattle.std.proofs.Common.{arith}
use Rattle.marker_set.specs.Numbered.{nowhere}
use Rattle.buffer_table.specs.Kept.{editor_of}
use Rattle.trace_print.specs.Dumped.{marker_line}
use Rattle.trace_print.proofs.Numbered.{one_more, all_lines, item_there}
use Rattle.sink_printer.proofs.Printing.{prints_then, prints_same, prints_nothing}
use Rattle.trace_print.proofs.objects_dump.markers.Goals as goal

pub loop-k-init : goal.loop-k-init
loop-k-init g c = prints_nothing

pub loop-k-preserved : goal.loop-k-preserved
loop-k-preserved g c = prints_same (one_more (marker_line (editor_of c.args.editor.now)) ((editor_of c.args.editor.now).marks.markers) c.loop-k.k _ (item_there ((editor_of c.args.editor.now).marks.markers) c.loop-k.k nowhere (omega (arith, c.marker_count-k-end.ensures, c.loop-k-test.true)))) (prints_then c.loop-k.invariant c.marker_line.ensures)

pub returns : goal.returns
returns g c = prints_same (all_lines (marker_line (editor_of c.args.editor.now)) ((editor_of c.args.editor.now).marks.markers) c.loop-k.k (omega (arith, c.marker_count-k-end.ensures, c.loop-k-test.false))) c.loop-k.invariant
