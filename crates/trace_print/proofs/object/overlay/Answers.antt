use Rattle.std.proofs.Common.{◌∙◌, ap}
use Rattle.overlay_set.specs.Numbered.{overlay_at}
use Rattle.buffer_table.specs.Kept.{editor_of}
use Rattle.trace_print.specs.Objects.{span_words}
use Rattle.sink_printer.proofs.Printing.{prints_same}
use Rattle.trace_print.proofs.Objects.{overlay_shown}
use Rattle.trace_print.proofs.object.overlay.Goals as goal

pub returns : goal.returns
returns g c =
    let marks = c.behind-editor.view_is ∙ c.marks.ensures in
    let span = c.span_of_overlay.ensures ∙ ap (λ m. (overlay_at m.overlays c.args.k).span) marks in
    prints_same (ap (span_words (editor_of c.args.editor.now)) span ∙ overlay_shown (editor_of c.args.editor.now) c.args.k) c.span.ensures
