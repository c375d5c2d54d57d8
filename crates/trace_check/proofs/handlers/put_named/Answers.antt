use Rattle.std.proofs.Common.{◌∷◌, map, ap, ◌∙◌}
use Rattle.plain_machine.specs.Items.{Body, Native}
use Rattle.ek_types.specs.Listing.{items_of}
use Rattle.ek_call.specs.Meaning.{form_of, joined, reply_of, view}
use Rattle.trace_check.specs.Meaning.{list_of}
use Rattle.trace_check.proofs.Entering.{body_named, native_named}
use Rattle.trace_check.proofs.Listing.{once_put}
use Rattle.trace_check.proofs.handlers.put_named.Goals as goal

pub returns-in_ok-copy-in-Some : goal.returns-in_ok-copy-in-Some
returns-in_ok-copy-in-Some g c = once_put c.put.result c.put.ensures.ok (λ put.
    let rest = list_of c.args.work.now in
    body_named (g.P.Program.meant c.args.program.now) c.args.name.0 (map view (items_of c.args.args)) (g.M.Kernel.state c.args.kernel.now) rest (joined (map form_of (items_of c.in-Some.body.now))) (list_of c.put.new.self)
    (put ∙ ap (λ fs. Body (joined fs) ∷ rest) c.in_ok-copy-in-Some.ensures) (rw c.in-Some.is at c.body.ensures))

pub returns-in-None : goal.returns-in-None
returns-in-None g c = once_put c.put-in-None.result c.put-in-None.ensures.ok (λ put.
    native_named (g.P.Program.meant c.args.program.now) c.args.name.0 (map view (items_of c.args.args)) (g.M.Kernel.state c.args.kernel.now) (list_of c.args.work.now) c.native.result (list_of c.put-in-None.new.self) (put ∙ ap (λ l. Native c.native.result (map view (items_of c.args.args)) (map reply_of l) ∷ list_of c.args.work.now) c.new-past.ensures) c.native.ensures (rw c.in-None.is at c.body.ensures))
