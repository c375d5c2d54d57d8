use Rattle.std.proofs.Common.{◌∷◌, ap, sym, ◌∙◌}
use Rattle.ek_call.specs.Meaning.{reply_of}
use Rattle.kernel_steps.specs.Work.{reply_item}
use Rattle.trace_check.specs.Meaning.{list_of, target_of}
use Rattle.trace_check.proofs.Listing.{once_put}
use Rattle.trace_check.proofs.replies.put_reply.Goals as goal

pub returns-in-Value : goal.returns-in-Value
returns-in-Value c = once_put c.put.result c.put.ensures.ok (λ put.
    put ∙ ap (λ r. reply_item (reply_of r) (target_of c.args.target) ∷ list_of c.args.work.now) (sym c.in-Value.is))

pub returns-in-Fault : goal.returns-in-Fault
returns-in-Fault c = once_put c.put-in-Fault.result c.put-in-Fault.ensures.ok (λ put.
    put ∙ ap (λ r. reply_item (reply_of r) (target_of c.args.target) ∷ list_of c.args.work.now) (sym c.in-Fault.is))
