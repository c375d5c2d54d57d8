use Rattle.plain_machine.specs.Lines.{Replied}
use Rattle.ek_call.specs.Meaning.{view, reply_of}
use Rattle.kernel_steps.specs.declared.stop.Halt.TheVariants as halt
use Rattle.kernel_steps.specs.declared.stop.Stop.TheVariants as stop
use Rattle.kernel_steps.proofs.Telling.{by_names, work_unwritten, work_answered, work_refused}
use Rattle.kernel_steps.proofs.Results.{stopped_by}
use Rattle.kernel_steps.proofs.reply.tell.Goals as goal

pub returns-in_err-tell_reply : goal.returns-in_err-tell_reply
returns-in_err-tell_reply g c = λ kills hosted target.
    rw (stopped_by c.from_residual.result (halt.Stop stop.WriteFault) c.from_residual.ensures)
    (work_unwritten (g.P.Program.meant c.args.program.now) target (reply_of c.args.reply) (g.M.Kernel.state c.args.kernel.now) kills (g.K.Sink.state c.args.sink.now) (g.K.Sink.state c.tell_reply.new.sink) c.in_err-tell_reply.field-0.0 _ hosted (by_names _ (g.K.Sink.state c.args.sink.now) (g.K.Sink.state c.tell_reply.new.sink) c.symbols.result.now (g.P.Program.meant c.args.program.now).symbols (g.M.Kernel.state c.args.kernel.now) (Replied (g.M.Kernel.state c.args.kernel.now).depth (reply_of c.args.reply)) c.symbols.ensures c.in_err-tell_reply.ensures))

pub returns-in-Value : goal.returns-in-Value
returns-in-Value g c = λ kills hosted target.
    rw c.in-Value.is (work_answered (g.P.Program.meant c.args.program.now) target c.in-Value.value view (g.M.Kernel.state c.args.kernel.now) kills (g.K.Sink.state c.args.sink.now) (g.K.Sink.state c.tell_reply.new.sink) tt hosted (rw c.in-Value.is at (by_names _ (g.K.Sink.state c.args.sink.now) (g.K.Sink.state c.tell_reply.new.sink) c.symbols.result.now (g.P.Program.meant c.args.program.now).symbols (g.M.Kernel.state c.args.kernel.now) (Replied (g.M.Kernel.state c.args.kernel.now).depth (reply_of c.args.reply)) c.symbols.ensures c.in_ok-tell_reply.ensures)))

pub returns-in-Fault : goal.returns-in-Fault
returns-in-Fault g c = λ kills hosted target.
    rw c.in-Fault.is (work_refused (g.P.Program.meant c.args.program.now) target c.in-Fault.fault _ (g.M.Kernel.state c.args.kernel.now) kills (g.K.Sink.state c.args.sink.now) (g.K.Sink.state c.tell_reply.new.sink) tt hosted (rw c.in-Fault.is at (by_names _ (g.K.Sink.state c.args.sink.now) (g.K.Sink.state c.tell_reply.new.sink) c.symbols.result.now (g.P.Program.meant c.args.program.now).symbols (g.M.Kernel.state c.args.kernel.now) (Replied (g.M.Kernel.state c.args.kernel.now).depth (reply_of c.args.reply)) c.symbols.ensures c.in_ok-tell_reply.ensures)))
