use Rattle.plain_machine.specs.Lines.{Replied}
use Rattle.editor_model.specs.Values.{Refused}
use Rattle.plain_machine.specs.Items.{Nowhere}
use Rattle.ek_call.specs.Faults.{fault_of}
use Rattle.kernel_steps.specs.Work.{onwards}
use Rattle.kernel_steps.proofs.Telling.{by_names, work_unwritten, work_refused}
use Rattle.kernel_steps.proofs.reply.refuse.Goals as goal

pub returns-in-Ok : goal.returns-in-Ok
returns-in-Ok g c = λ kills hosted.
    work_refused (g.P.Program.meant c.args.program.now) Nowhere {T = Unit {0}} c.args.fault onwards (g.M.Kernel.state c.args.kernel.now) kills (g.K.Sink.state c.args.sink.now) (g.K.Sink.state c.tell_reply.new.sink) tt hosted (by_names _ (g.K.Sink.state c.args.sink.now) (g.K.Sink.state c.tell_reply.new.sink) c.symbols.result.now (g.P.Program.meant c.args.program.now).symbols (g.M.Kernel.state c.args.kernel.now) (Replied (g.M.Kernel.state c.args.kernel.now).depth (Refused (fault_of c.args.fault))) c.symbols.ensures c.in-Ok.ensures)

pub returns : goal.returns
returns g c = λ kills hosted.
    rw c.from.ensures (work_unwritten (g.P.Program.meant c.args.program.now) Nowhere (Refused (fault_of c.args.fault)) (g.M.Kernel.state c.args.kernel.now) kills (g.K.Sink.state c.args.sink.now) (g.K.Sink.state c.tell_reply.new.sink) {T = Unit {0}} c.in-Err.failed onwards hosted (by_names _ (g.K.Sink.state c.args.sink.now) (g.K.Sink.state c.tell_reply.new.sink) c.symbols.result.now (g.P.Program.meant c.args.program.now).symbols (g.M.Kernel.state c.args.kernel.now) (Replied (g.M.Kernel.state c.args.kernel.now).depth (Refused (fault_of c.args.fault))) c.symbols.ensures c.in-Err.ensures))
