use Rattle.std.proofs.Common.{[], refl, sym, ap, ◌∙◌, inr}
use Rattle.std.proofs.KnownBytes.{Appends-nil}
use Rattle.plain_machine.specs.State.{State}
use Rattle.buffer_table.specs.Kept.{editor_of}
use Rattle.ek_call.specs.Meaning.{script_of}
use Rattle.kernel_state.specs.Whole.{program_with}
use Rattle.kernel_top.proofs.Viewed.{viewed, cause}
use Rattle.kernel_top.proofs.viewing.view_script.Goals as goal

pub returns-in-Ok-clause-outcome : goal.returns-in-Ok-clause-outcome
returns-in-Ok-clause-outcome g c =
    let (exchanges, calls, ran) = c.in-Ok.ensures in
    let (whole, last) = ran in
    let (written, put, row) =
    viewed (program_with g.N.Natives.names g.N.Natives.does (script_of c.args.script.now) c.args.natives.now) (script_of c.args.script.now) exchanges whole.lines whole.ran (editor_of c.editor.result.now) (sym (ap (λ (s : State). s.editor) last) ∙ sym c.editor.ensures) c.view_current.result (g.K.Sink.state c.args.sink.now) (g.K.Sink.state c.view_current.new.sink) c.view_current.ensures in
    rw c.viewed_status.ensures (written, exchanges, put, calls, row)

pub returns-in-Ok-clause-write_fault : goal.returns-in-Ok-clause-write_fault
returns-in-Ok-clause-write_fault g c = rw c.viewed_status.ensures (cause c.view_current.result (g.K.Sink.state c.args.sink.now) (g.K.Sink.state c.view_current.new.sink) _ c.view_current.ensures)

pub returns-in-Err-clause-outcome : goal.returns-in-Err-clause-outcome
returns-in-Err-clause-outcome g c =
    let (exchanges, calls, broken) = c.in-Err.ensures in
    ([], exchanges, Appends-nil _, calls, record { came = inr broken; nothing = refl; same = refl })
