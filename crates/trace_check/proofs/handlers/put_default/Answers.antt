use Rattle.std.proofs.Common.{refl, map, ap}
use Rattle.ek_types.specs.Listing.{items_of}
use Rattle.ek_call.specs.Meaning.{view}
use Rattle.kernel_steps.specs.Handlers.{kind_of}
use Rattle.kernel_steps.specs.Work.{working}
use Rattle.trace_check.specs.Meaning.{list_of}
use Rattle.trace_check.proofs.Entering.{default_put}
use Rattle.trace_check.proofs.Listing.{once_put}
use Rattle.trace_check.proofs.handlers.put_default.Goals as goal

pub returns-in-Change : goal.returns-in-Change
returns-in-Change g c = once_put c.put.result c.put.ensures.ok (λ put.
    let known2 = g.M.Kernel.state c.prepare_default.new.self in
    default_put (kind_of c.args.kind) (map view (items_of c.args.args.now)) (g.M.Kernel.state c.args.kernel.now) known2 (list_of c.args.work.now) (list_of c.put.new.self) _ (rw c.in-Change.is at c.in_ok-change.ensures.prepared) c.in_ok-change.ensures.ok (ap (working known2) put))

pub returns-in-Fault : goal.returns-in-Fault
returns-in-Fault g c = once_put c.put-in-Fault.result c.put-in-Fault.ensures.ok (λ put.
    let known2 = g.M.Kernel.state c.prepare_default.new.self in
    default_put (kind_of c.args.kind) (map view (items_of c.args.args.now)) (g.M.Kernel.state c.args.kernel.now) known2 (list_of c.args.work.now) (list_of c.put-in-Fault.new.self) _ (rw c.in-Fault.is at c.in_ok-change.ensures.prepared) c.in_ok-change.ensures.ok (ap (working known2) put))

pub returns-in-Quiet : goal.returns-in-Quiet
returns-in-Quiet g c =
    let known2 = g.M.Kernel.state c.prepare_default.new.self in
    default_put (kind_of c.args.kind) (map view (items_of c.args.args.now)) (g.M.Kernel.state c.args.kernel.now) known2 (list_of c.args.work.now) (list_of c.args.work.now) _ (rw c.in-Quiet.is at c.in_ok-change.ensures.prepared) c.in_ok-change.ensures.ok refl

pub returns : goal.returns
returns g c =
    let known2 = g.M.Kernel.state c.prepare_default.new.self in
    default_put (kind_of c.args.kind) (map view (items_of c.args.args.now)) (g.M.Kernel.state c.args.kernel.now) known2 (list_of c.args.work.now) (list_of c.args.work.now) _ (rw c.in-Nothing.is at c.in_ok-change.ensures.prepared) c.in_ok-change.ensures.ok refl
