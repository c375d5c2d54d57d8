use Rattle.editor_model.specs.Values.{Answered}
use Rattle.plain_machine.specs.Lines.{Replied}
use Rattle.ek_call.specs.Meaning.{view}
use Rattle.kernel_steps.proofs.Telling.{by_names}
use Rattle.trace_check.specs.Meaning.{list_of, target_of}
use Rattle.trace_check.proofs.Lines.{given_on}
use Rattle.trace_check.proofs.replies.give_answer.Goals as goal

pub returns-clause-step : goal.returns-clause-step
returns-clause-step g c =
    let program = g.P.Program.meant c.args.program.now in
    let known = g.M.Kernel.state c.args.kernel.now in
    let old = g.K.Sink.state c.args.sink.now in
    let new = g.K.Sink.state c.tell_reply.new.sink in
    given_on program known (g.M.Kernel.state c.hand_on.new.kernel) (list_of c.args.work.now) (list_of c.hand_on.new.work) old new c.in_ok-tell_reply.field-0 (view c.args.value) (target_of c.args.target) c.in_ok-hand_on.ensures
    (by_names _ old new c.symbols.result.now program.symbols known (Replied known.depth (Answered (view c.args.value))) c.symbols.ensures c.in_ok-tell_reply.ensures)
