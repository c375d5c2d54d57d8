use Rattle.std.proofs.Common.{◌∷◌, ap, sym, ◌∙◌, refl}
use Rattle.std.specs.Prelude.{Some}
use Rattle.plain_machine.specs.Calls.{silent}
use Rattle.plain_machine.specs.Items.{GiveAnswer}
use Rattle.kernel_steps.specs.Processes.{counted}
use Rattle.kernel_steps.proofs.Shapes.{nil_is}
use Rattle.trace_check.specs.Meaning.{list_of, target_of}
use Rattle.trace_check.proofs.Asking.{other_sent}
use Rattle.trace_check.proofs.processes.take_sent.Goals as goal

pub returns-in-Sent : goal.returns-in-Sent
returns-in-Sent g c =
    rw c.in-Sent.is (λ s h. (counted c.args.size s, c.count_sent.ensures ∙ ap (counted c.args.size) h, ap (λ l. Some (silent (counted c.args.size s) l)) (sym (c.put_back.ensures ∙ ap (λ v. GiveAnswer v (target_of c.args.target) ∷ list_of c.args.work.now) nil_is))))

pub returns-in-Broken : goal.returns-in-Broken
returns-in-Broken g c =
    rw c.in-Broken.is (λ s h. (counted c.args.size s, c.count_sent-in-Broken.ensures ∙ ap (counted c.args.size) h, ap (λ l. Some (silent (counted c.args.size s) l)) (sym c.put_back-in-Broken.ensures)))

pub returns-in_default : goal.returns-in_default
returns-in_default g c =
    rw c.unmade.ensures.result (refl, c.unmade.ensures.work, λ s h. other_sent s (target_of c.args.target) (list_of c.args.work.now) c.args.size c.args.answer.now c.in_default.not-Sent c.in_default.not-Broken)
