use Rattle.std.proofs.Common.{◌∷◌, map, length, ap, ◌∙◌, arith}
use Rattle.std.proofs.lemmas.List.{length-map}
use Rattle.plain_machine.specs.Handling.{native_call}
use Rattle.ek_types.specs.Listing.{items_of}
use Rattle.ek_call.specs.Meaning.{reply_of, view}
use Rattle.handler_code.specs.Calls.{call_asked}
use Rattle.trace_check.specs.Meaning.{list_of}
use Rattle.trace_check.proofs.HandlerItems.{native_asks, native_done, native_spent}
use Rattle.trace_check.proofs.Listing.{once_put}
use Rattle.trace_check.proofs.handlers.go_on.Goals as goal

pub returns-then-len-ge-MOST_REPLIES : goal.returns-then-len-ge-MOST_REPLIES
returns-then-len-ge-MOST_REPLIES g c =
    native_spent (g.P.Program.meant c.args.program.now) (g.M.Kernel.state c.args.kernel.now) (list_of c.args.work.now) c.args.native (map view (items_of c.args.args)) (map reply_of (items_of c.args.past)) (rw length-map (omega arith))

pub returns-in-Done : goal.returns-in-Done
returns-in-Done g c =
    native_done (g.P.Program.meant c.args.program.now) (g.M.Kernel.state c.args.kernel.now) (list_of c.args.work.now) c.args.native (map view (items_of c.args.args)) (map reply_of (items_of c.args.past)) (rw length-map (omega arith)) (rw c.in-Done.is at c.in_ok-next.ensures)

pub returns-in-Call : goal.returns-in-Call
returns-in-Call g c = once_put c.put_call.result c.put_call.ensures (λ put.
    let program = g.P.Program.meant c.args.program.now in
    let known = g.M.Kernel.state c.args.kernel.now in
    native_asks program known (list_of c.args.work.now) c.args.native (map view (items_of c.args.args)) (map reply_of (items_of c.args.past)) (call_asked c.in-Call.asked) (list_of c.put_call.new.work) (rw length-map (omega arith)) (rw c.in-Call.is at c.in_ok-next.ensures)
    (put ∙ ap (λ l. native_call program known (call_asked c.in-Call.asked) ∷ l) c.put_back.ensures))
