use Rattle.std.proofs.Common.{map, ap, sym, ◌∙◌, refl}
use Rattle.std.specs.Prelude.{Some}
use Rattle.editor_model.specs.Arguments.{arg}
use Rattle.plain_machine.specs.Calls.{silent}
use Rattle.ek_types.specs.Listing.{items_of}
use Rattle.ek_call.specs.Meaning.{view}
use Rattle.plain_machine.specs.Waits.{asked_more}
use Rattle.kernel_steps.proofs.Passing.{starts_may}
use Rattle.trace_check.specs.Meaning.{list_of, target_of}
use Rattle.trace_check.proofs.Asking.{other_spawned}
use Rattle.trace_check.proofs.processes.take_spawned.Goals as goal

pub returns-in-Started : goal.returns-in-Started
returns-in-Started g c = rw c.in-Started.is c.take_child.ensures

pub count_asked-requires : goal.count_asked-requires
count_asked-requires g c = starts_may (g.P.Program.meant c.args.program.now) (g.M.Kernel.state c.args.kernel.now) (map view (items_of c.args.args)) c.requires.passes

pub returns-in-Refused : goal.returns-in-Refused
returns-in-Refused g c = rw c.in-Refused.is (λ s h. (asked_more s, c.count_asked.ensures ∙ ap asked_more h, ap (λ l. Some (silent (asked_more s) l)) (sym c.put_back.ensures)))

pub returns-in_default : goal.returns-in_default
returns-in_default g c =
    let args = map view (items_of c.args.args) in
    rw c.unmade.ensures.result (refl, c.unmade.ensures.work, λ s h. other_spawned s (target_of c.args.target) (list_of c.args.work.now) (arg args 0) (arg args 1) c.args.answer.now c.in_default.not-Started c.in_default.not-Refused)
