use Rattle.std.proofs.Common.{◌≡◌, ◌∙◌, ap}
use Rattle.editor_model.specs.Editor.{marker_of}
use Rattle.marker_set.specs.Numbered.{marker_at, spot_of}
use Rattle.buffer_table.specs.Kept.{editor_of}
use Rattle.sink_printer.proofs.Printing.{prints_then, prints_same}
use Rattle.trace_print.proofs.Objects.{marker_shown}
use Rattle.trace_print.proofs.object.marker.Goals as goal

pub returns : goal.returns
returns g c =
    let marks = c.behind-editor.view_is ∙ c.marks.ensures in
    let kind : c.advances.result ≡ (marker_of (editor_of c.args.editor.now) c.args.k).advances = c.advances.ensures ∙ ap (λ m. (marker_at m.markers c.args.k).advances) marks in
    let spot : spot_of c.spot_of_marker.result ≡ (marker_of (editor_of c.args.editor.now) c.args.k).spot = c.spot_of_marker.ensures ∙ ap (λ m. (marker_at m.markers c.args.k).spot) marks in
    prints_same (marker_shown (editor_of c.args.editor.now) c.args.k _ _ kind spot) (prints_then c.put.ensures (prints_then c.insertion_type.ensures c.spot.ensures))
