use Rattle.std.proofs.Common.{◌+◌, ◌∷◌, false, map, ap, ◌∙◌, option_map}
use Rattle.plain_machine.specs.Handling.{bound_params, in_scope}
use Rattle.plain_machine.specs.Lines.{Entered}
use Rattle.plain_machine.specs.Items.{Exit}
use Rattle.ek_types.specs.Listing.{items_of}
use Rattle.ek_types.specs.Property.{number_of}
use Rattle.ek_call.specs.Meaning.{view}
use Rattle.kernel_steps.specs.Handlers.{code_of, kind_of}
use Rattle.kernel_steps.proofs.Telling.{by_names}
use Rattle.trace_check.specs.Meaning.{list_of}
use Rattle.trace_check.proofs.Entering.{handler_entered}
use Rattle.trace_check.proofs.handlers.enter.Goals as goal

pub returns-clause-step : goal.returns-clause-step
returns-clause-step g c =
    let program = g.P.Program.meant c.args.program.now in
    let known = g.M.Kernel.state c.args.kernel.now in
    let mid = g.M.Kernel.state c.enter.new.self in
    let old = g.K.Sink.state c.args.sink.now in
    let new = g.K.Sink.state c.tell_entry.new.sink in
    let kind = kind_of c.args.kind in
    let handler = option_map number_of c.args.handler in
    let args = map view (items_of c.args.args) in
    let rest = list_of c.args.work.now in
    handler_entered program kind args handler known mid (g.M.Kernel.state c.put_code.new.kernel) rest (list_of c.put_code.new.work) old new c.in_ok-tell_entry.field-0
    (c.in_ok-enter.ensures.ok ∙ ap (λ ps. in_scope (bound_params ps args) (record known { depth = known.depth + 1 })) c.params.ensures)
    (c.in_ok-put_code.ensures ∙ ap (code_of program kind handler args mid) (c.put_back.ensures ∙ ap (λ b. Exit kind handler b false ∷ rest) c.current-current.ensures))
    (by_names _ old new c.symbols.result.now program.symbols known (Entered known.depth kind handler args) c.symbols.ensures c.in_ok-tell_entry.ensures)
