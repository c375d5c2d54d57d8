use Rattle.std.proofs.Common.{◌∷◌, map, ap, sym, ◌∙◌, refl}
use Rattle.editor_model.specs.Arguments.{arg}
use Rattle.plain_machine.specs.Items.{GiveAnswer}
use Rattle.ek_types.specs.Listing.{items_of}
use Rattle.ek_call.specs.Meaning.{view}
use Rattle.kernel_steps.proofs.Shapes.{process_is}
use Rattle.trace_check.specs.Meaning.{list_of, target_of}
use Rattle.trace_check.proofs.Asking.{child_taken, child_refused}
use Rattle.trace_check.proofs.processes.take_child.Goals as goal

pub returns-then-not-is_new : goal.returns-then-not-is_new
returns-then-not-is_new g c =
    let args = map view (items_of c.args.args) in
    rw c.unmade.ensures.result (refl, c.unmade.ensures.work, child_refused (g.M.Kernel.state c.args.kernel.now) (target_of c.args.target) (list_of c.args.work.now) (arg args 0) (arg args 1) c.args.child (sym c.is_new.ensures ∙ c.if-not-is_new.true))

pub reserve_process-requires : goal.reserve_process-requires
reserve_process-requires g c = c.requires.passes

pub start-p-requires : goal.start-p-requires
start-p-requires g c = record { passes = rw c.reserve_process.ensures.state c.requires.passes; place = c.in_ok-reserve_process.ensures.place }

pub returns : goal.returns
returns g c =
    let args = map view (items_of c.args.args) in
    let target = target_of c.args.target in
    let rest = list_of c.args.work.now in
    let state_is = rw c.reserve_process.ensures.state at c.start-p.ensures.state in
    let number_is = rw c.reserve_process.ensures.state at c.start-p.ensures.number in
    child_taken (g.M.Kernel.state c.args.kernel.now) target rest (arg args 0) (arg args 1) c.args.child (g.M.Kernel.state c.start-p.new.self) c.start-p.result (list_of c.put_back.new.self) (sym c.is_new.ensures ∙ c.if-not-is_new.false) state_is number_is
    (c.put_back.ensures ∙ ap (λ v. GiveAnswer v target ∷ rest) (process_is c.start-p.result))
