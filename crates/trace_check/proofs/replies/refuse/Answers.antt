use Rattle.editor_model.specs.Values.{Refused}
use Rattle.plain_machine.specs.Lines.{Replied}
use Rattle.ek_call.specs.Faults.{fault_of}
use Rattle.kernel_steps.proofs.Telling.{by_names}
use Rattle.trace_check.specs.Meaning.{list_of}
use Rattle.trace_check.proofs.Lines.{refused_drops}
use Rattle.trace_check.proofs.replies.refuse.Goals as goal

pub returns-clause-step : goal.returns-clause-step
returns-clause-step g c =
    let program = g.P.Program.meant c.args.program.now in
    let known = g.M.Kernel.state c.args.kernel.now in
    let old = g.K.Sink.state c.args.sink.now in
    let new = g.K.Sink.state c.tell_reply.new.sink in
    refused_drops program known (g.M.Kernel.state c.drop_work.new.kernel) (list_of c.args.work.now) (list_of c.drop_work.new.work) old new c.in_ok-tell_reply.field-0 (fault_of c.args.fault) c.in_ok-drop_work.ensures
    (by_names _ old new c.symbols.result.now program.symbols known (Replied known.depth (Refused (fault_of c.args.fault))) c.symbols.ensures c.in_ok-tell_reply.ensures)
