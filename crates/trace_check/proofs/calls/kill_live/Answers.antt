use Rattle.ek_call.specs.Meaning.{reply_of}
use Rattle.trace_check.specs.Meaning.{list_of, target_of}
use Rattle.trace_check.proofs.CallItems.{kill_done}
use Rattle.trace_check.proofs.Listing.{once_put}
use Rattle.trace_check.proofs.calls.kill_live.Goals as goal

pub returns : goal.returns
returns g c = λ program. once_put c.put_reply.result c.put_reply.ensures (λ put.
    kill_done program (g.M.Kernel.state c.args.kernel.now) (g.M.Kernel.state c.kill_live.new.self) c.args.buffer (target_of c.args.target) (list_of c.args.work.now) (reply_of c.in_ok-reply.reply) (list_of c.put_reply.new.work) c.in_ok-reply.ensures.ok c.in_ok-reply.ensures.reply put)
