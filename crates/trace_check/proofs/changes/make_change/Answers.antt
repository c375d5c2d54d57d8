use Rattle.std.proofs.Common.{ap, ◌∙◌}
use Rattle.plain_machine.specs.Lines.{OfBefore}
use Rattle.prim_changes.specs.Meaning.{change_of}
use Rattle.kernel_steps.specs.Changes.{ends_of}
use Rattle.kernel_steps.specs.Handlers.{around}
use Rattle.trace_check.specs.Meaning.{list_of}
use Rattle.trace_check.proofs.ChangeItems.{change_begins}
use Rattle.trace_check.proofs.Listing.{once_put}
use Rattle.trace_check.proofs.changes.make_change.Goals as goal

pub returns : goal.returns
returns g c = λ program. once_put c.put_hooks.result c.put_hooks.ensures (λ put.
    let change = change_of c.args.change in
    let mid = g.M.Kernel.state c.keep_ends.new.kernel in
    change_begins program (g.M.Kernel.state c.args.kernel.now) (g.M.Kernel.state c.put_hooks.new.kernel) (list_of c.args.work.now) (list_of c.put_hooks.new.work) mid change c.in_ok-ends.ensures.state
    (put ∙ ap (λ args. around (OfBefore change.buffer) args mid (list_of c.put_back.new.self)) c.in_ok-ends.ensures.ends ∙ ap (around (OfBefore change.buffer) (ends_of change.from change.to) mid) c.put_back.ensures))
