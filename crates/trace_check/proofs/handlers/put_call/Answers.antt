use Rattle.std.proofs.Common.{◌∷◌, ap, ◌∙◌}
use Rattle.handler_code.specs.Calls.{call_asked}
use Rattle.trace_check.specs.Meaning.{list_of}
use Rattle.trace_check.proofs.HandlerItems.{call_made, call_barred}
use Rattle.trace_check.proofs.Listing.{once_put}
use Rattle.trace_check.proofs.handlers.put_call.Goals as goal

pub returns-in-Some : goal.returns-in-Some
returns-in-Some g c = once_put c.put.result c.put.ensures.ok (λ put.
    put ∙ ap (λ x. x ∷ list_of c.args.work.now) (call_made (g.P.Program.meant c.args.program.now) (g.M.Kernel.state c.args.kernel.now) (call_asked c.args.asked) (call_asked c.in-Some.made) (rw c.in-Some.is at c.in_ok-made.ensures)))

pub returns-in-None : goal.returns-in-None
returns-in-None g c = once_put c.put-in-None.result c.put-in-None.ensures.ok (λ put.
    put ∙ ap (λ x. x ∷ list_of c.args.work.now) (call_barred (g.P.Program.meant c.args.program.now) (g.M.Kernel.state c.args.kernel.now) (call_asked c.args.asked) (rw c.in-None.is at c.in_ok-made.ensures)))
