use Rattle.std.proofs.Common.{map}
use Rattle.ek_types.specs.Listing.{items_of}
use Rattle.ek_call.specs.Meaning.{view}
use Rattle.trace_check.specs.Meaning.{list_of, target_of}
use Rattle.trace_check.proofs.CallItems.{wait_put}
use Rattle.trace_check.proofs.Listing.{once_put}
use Rattle.trace_check.proofs.calls.accept_output.Goals as goal

pub returns : goal.returns
returns g c = once_put c.put.result c.put.ensures.ok (λ put.
    wait_put (g.P.Program.meant c.args.program.now) (g.M.Kernel.state c.args.kernel.now) (map view (items_of c.args.args.now)) (target_of c.args.target) (list_of c.args.work.now) c.new-waiting.result (list_of c.put.new.self) c.requires c.new-waiting.ensures put)
