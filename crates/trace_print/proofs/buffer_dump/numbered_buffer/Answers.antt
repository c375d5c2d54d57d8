use Rattle.std.proofs.Common.{sym, ap, ◌∙◌}
use Rattle.std.specs.Prelude.{◌==◌}
use Rattle.editor_model.specs.Editor.{live}
use Rattle.buffer_table.specs.Kept.{editor_of}
use Rattle.sink_printer.proofs.Printing.{prints_same, prints_nothing}
use Rattle.trace_print.proofs.Live.{live_shown, none_shown}
use Rattle.trace_print.proofs.buffer_dump.numbered_buffer.Goals as goal

pub returns-in-Some : goal.returns-in-Some
returns-in-Some g c =
    let e = editor_of c.args.names.now.editor.now in
    prints_same (live_shown c.args.names.now.symbols.now e.current c.args.id (c.args.id == c.current.result) (live e c.args.id) c.in-Some.text (ap (λ n. c.args.id == n) c.current.ensures.number) (sym c.text.ensures ∙ c.in-Some.is)) c.buffer_lines.ensures

pub returns-in_default : goal.returns-in_default
returns-in_default g c =
    let e = editor_of c.args.names.now.editor.now in
    prints_same (none_shown c.args.names.now.symbols.now e.current c.args.id (live e c.args.id) (sym c.text.ensures ∙ c.in_default.is)) prints_nothing
