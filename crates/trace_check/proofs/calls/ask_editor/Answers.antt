use Rattle.std.proofs.Common.{map}
use Rattle.ek_types.specs.Listing.{items_of}
use Rattle.ek_call.specs.Meaning.{reply_of, view}
use Rattle.ek_call.specs.Primitives.{prim_of}
use Rattle.trace_check.specs.Meaning.{list_of, target_of}
use Rattle.trace_check.proofs.CallItems.{asks_editor}
use Rattle.trace_check.proofs.Listing.{once_put}
use Rattle.trace_check.proofs.calls.ask_editor.Goals as goal

pub returns : goal.returns
returns g c = λ program. once_put c.put_reply.result c.put_reply.ensures (λ put.
    asks_editor program (g.M.Kernel.state c.args.kernel.now) (map view (items_of c.args.args.now)) (target_of c.args.target) (list_of c.args.work.now) (prim_of c.args.prim) (reply_of c.in_ok-reply.reply) (list_of c.put_reply.new.work) c.requires c.in_ok-reply.ensures put)
