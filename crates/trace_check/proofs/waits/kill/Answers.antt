use Rattle.trace_check.specs.Meaning.{list_of}
use Rattle.trace_check.proofs.Deletions.{killed_put}
use Rattle.trace_check.proofs.Listing.{once_put}
use Rattle.trace_check.proofs.waits.kill.Goals as goal

pub returns : goal.returns
returns g c = once_put c.put.result c.put.ensures.ok (λ put.
    killed_put (g.M.Kernel.state c.args.kernel.now) (g.M.Kernel.state c.take_kill.new.self) c.args.p c.in_ok-entry.entry (list_of c.args.work.now) (list_of c.put.new.self) c.in_ok-entry.ensures.ok put)
