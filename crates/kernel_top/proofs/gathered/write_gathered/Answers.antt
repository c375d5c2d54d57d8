use Rattle.std.proofs.Common.{subst, ap, ◌∙◌}
use Rattle.std.specs.List.{list_any}
use Rattle.ek_types.specs.Io.{Writes}
use Rattle.kernel_run.specs.Meaning.{state_of}
use Rattle.session_laws.specs.Sessions.{is_stopped}
use Rattle.kernel_top.specs.Gathering.{gathered}
use Rattle.kernel_top.proofs.Gathering.{text_written, fault_cause}
use Rattle.kernel_top.proofs.gathered.write_gathered.Goals as goal

pub returns-clause-written : goal.returns-clause-written
returns-clause-written g c = λ last stands.
    rw c.gathered_status.ensures (text_written c.write_buffer.result c.is_full-full.result (state_of c.args.kernel.now) last (g.K.Sink.state c.args.sink.now) (g.K.Sink.state c.write_buffer.new.sink) stands
    (c.is_full-full.ensures ∙ ap (list_any is_stopped) c.processes.ensures)
    (subst (λ e. Writes (g.K.Sink.state c.args.sink.now) (g.K.Sink.state c.write_buffer.new.sink) c.write_buffer.result (gathered e)) c.editor.ensures c.write_buffer.ensures))

pub returns-clause-write_fault : goal.returns-clause-write_fault
returns-clause-write_fault g c =
    rw c.gathered_status.ensures (fault_cause c.write_buffer.result c.is_full-full.result (g.K.Sink.state c.args.sink.now) (g.K.Sink.state c.write_buffer.new.sink) _ c.write_buffer.ensures)
