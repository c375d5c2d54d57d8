use Rattle.std.proofs.Common.{map}
use Rattle.ek_types.specs.Listing.{items_of}
use Rattle.ek_call.specs.Meaning.{view}
use Rattle.ek_call.specs.Primitives.{prim_of}
use Rattle.trace_check.specs.Meaning.{list_of, target_of}
use Rattle.trace_check.proofs.CallItems.{silent_put}
use Rattle.trace_check.proofs.Listing.{once_put}
use Rattle.trace_check.proofs.calls.call_silently.Goals as goal

pub returns : goal.returns
returns g c = once_put c.put.result c.put.ensures.ok (λ put.
    silent_put (g.P.Program.meant c.args.program.now) (g.M.Kernel.state c.args.kernel.now) (map view (items_of c.args.args.now)) (target_of c.args.target) (list_of c.args.work.now) (g.M.Kernel.state c.call_silently.new.self) (prim_of c.args.prim) (view c.in_ok-value.value) (list_of c.put.new.self) c.requires.manner c.requires.silent c.requires.passes c.in_ok-value.ensures.value c.in_ok-value.ensures.ok put)
