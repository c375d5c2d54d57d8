use Rattle.std.proofs.Common.{◌-◌, ap, ◌∙◌, option_map}
use Rattle.plain_machine.specs.Lines.{Left}
use Rattle.ek_types.specs.Property.{number_of}
use Rattle.kernel_steps.specs.Handlers.{ended_state, kind_of}
use Rattle.kernel_steps.proofs.Telling.{by_names}
use Rattle.trace_check.specs.Meaning.{list_of}
use Rattle.trace_check.proofs.Entering.{handler_left}
use Rattle.trace_check.proofs.handlers.exit.Goals as goal

pub returns-clause-step : goal.returns-clause-step
returns-clause-step g c =
    let program = g.P.Program.meant c.args.program.now in
    let known = g.M.Kernel.state c.args.kernel.now in
    let old = g.K.Sink.state c.args.sink.now in
    let new = g.K.Sink.state c.tell_exit.new.sink in
    let kind = kind_of c.args.kind in
    let handler = option_map number_of c.args.handler in
    handler_left program kind handler c.args.current c.args.faulted known (g.M.Kernel.state c.end_handler.new.self) (list_of c.args.work.now) (list_of c.end_work.new.work) old new c.in_ok-tell_exit.field-0
    (c.end_handler.ensures ∙ ap (ended_state kind c.args.faulted) c.leave.ensures) c.end_work.ensures
    (by_names _ old new c.symbols.result.now program.symbols known (Left (known.depth - 1) handler) c.symbols.ensures c.in_ok-tell_exit.ensures)
