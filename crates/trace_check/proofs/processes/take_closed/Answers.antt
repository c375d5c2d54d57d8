use Rattle.std.proofs.Common.{◌∷◌, ap, ◌∙◌, refl}
use Rattle.plain_machine.specs.Items.{GiveAnswer}
use Rattle.kernel_steps.proofs.Shapes.{process_is}
use Rattle.trace_check.specs.Meaning.{list_of, target_of}
use Rattle.trace_check.proofs.Asking.{other_closed, close_taken}
use Rattle.trace_check.proofs.processes.take_closed.Goals as goal

pub returns-in-Closed : goal.returns-in-Closed
returns-in-Closed g c =
    let target = target_of c.args.target in
    let rest = list_of c.args.work.now in
    rw c.in-Closed.is (close_taken (g.M.Kernel.state c.args.kernel.now) (g.M.Kernel.state c.note_closed.new.self) target rest (list_of c.put_back.new.self) c.args.p c.note_closed.ensures (c.put_back.ensures ∙ ap (λ v. GiveAnswer v target ∷ rest) (process_is c.args.p)))

pub returns-in_default : goal.returns-in_default
returns-in_default g c =
    rw c.unmade.ensures.result (refl, c.unmade.ensures.work, λ s h. other_closed s (target_of c.args.target) (list_of c.args.work.now) c.args.p c.args.answer.now c.in_default.not-Closed)
