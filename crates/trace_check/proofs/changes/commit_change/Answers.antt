use Rattle.std.proofs.Common.{ap, ◌∙◌}
use Rattle.editor_model.specs.Answers.{Done}
use Rattle.plain_machine.specs.Lines.{OfAfter}
use Rattle.ek_call.specs.Faults.{fault_of}
use Rattle.prim_changes.specs.Meaning.{change_of}
use Rattle.kernel_steps.specs.Handlers.{around}
use Rattle.trace_check.specs.Meaning.{list_of}
use Rattle.trace_check.proofs.ChangeItems.{commit_done, commit_fails}
use Rattle.trace_check.proofs.Listing.{once_put}
use Rattle.trace_check.proofs.changes.commit_change.Goals as goal

pub returns-in-Fault : goal.returns-in-Fault
returns-in-Fault g c = λ program. once_put c.put.result c.put.ensures.ok (λ put.
    commit_fails program (g.M.Kernel.state c.args.kernel.now) (g.M.Kernel.state c.commit.new.self) (list_of c.args.work.now) (list_of c.put.new.self) (change_of c.args.change.now) (fault_of c.in-Fault.fault) (rw c.in-Fault.is at c.in_ok-fault.ensures.done) (rw c.in-Fault.is at c.in_ok-fault.ensures.ok) put)

pub returns-in_ok-ends-in-Done : goal.returns-in_ok-ends-in-Done
returns-in_ok-ends-in-Done g c = λ program. once_put c.put_hooks.result c.put_hooks.ensures (λ put.
    let change = change_of c.args.change.now in
    let mid = g.M.Kernel.state c.commit.new.self in
    commit_done program (g.M.Kernel.state c.args.kernel.now) (g.M.Kernel.state c.put_hooks.new.kernel) (list_of c.args.work.now) (list_of c.put_hooks.new.work) mid change c.in-Done.from c.in-Done.to c.in-Done.old (rw c.in-Done.is at c.in_ok-fault.ensures.done) (rw c.in-Done.is at c.in_ok-fault.ensures.ok)
    (put ∙ ap (λ args. around (OfAfter change.buffer) args mid (list_of c.args.work.now)) c.in_ok-ends-in-Done.ensures))
