use Rattle.std.proofs.Common.{sym, subst}
use Rattle.ek_types.specs.Io.{Writes}
use Rattle.buffer_table.specs.Kept.{editor_of}
use Rattle.kernel_top.proofs.Gathering.{found_none, found_killed, found_live, named_find, nothing_written}
use Rattle.kernel_top.proofs.gathered.write_buffer.Goals as goal

pub returns-in_default : goal.returns-in_default
returns-in_default g c = nothing_written (g.K.Sink.state c.args.sink.now) (found_none (editor_of c.args.editor.now) (named_find (editor_of c.args.editor.now) _ _ c.requires c.in_default.ensures))

pub returns-in-Some-text : goal.returns-in-Some-text
returns-in-Some-text g c =
    let e = editor_of c.args.editor.now in
    let is = found_live e c.in-Some.id c.in-Some-text.text (named_find e _ _ c.requires c.in-Some.ensures) c.in-Some-text.ensures in
    subst (λ l. Writes (g.K.Sink.state c.args.sink.now) (g.K.Sink.state c.write_text.new.sink) c.write_text.result l) (sym is) c.write_text.ensures

pub returns-in-None : goal.returns-in-None
returns-in-None g c =
    let e = editor_of c.args.editor.now in
    nothing_written (g.K.Sink.state c.args.sink.now) (found_killed e c.in-Some.id (named_find e _ _ c.requires c.in-Some.ensures) c.in-None.ensures)
