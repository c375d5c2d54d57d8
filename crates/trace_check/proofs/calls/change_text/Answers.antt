use Rattle.std.proofs.Common.{map}
use Rattle.ek_types.specs.Listing.{items_of}
use Rattle.ek_call.specs.Faults.{fault_of}
use Rattle.ek_call.specs.Meaning.{view}
use Rattle.ek_call.specs.Primitives.{prim_of}
use Rattle.prim_changes.specs.Meaning.{change_of}
use Rattle.trace_check.specs.Meaning.{list_of, target_of}
use Rattle.trace_check.proofs.CallItems.{change_put, quiet_put, nothing_put, barred_put}
use Rattle.trace_check.proofs.Listing.{both_done, once_put}
use Rattle.trace_check.proofs.calls.change_text.Goals as goal

pub returns-in-Change : goal.returns-in-Change
returns-in-Change g c = λ program. once_put c.put_change.result c.put_change.ensures (λ put.
    change_put program (g.M.Kernel.state c.args.kernel.now) (map view (items_of c.args.args.now)) (target_of c.args.target) (list_of c.args.work.now) (prim_of c.args.prim) (change_of c.in-Change.change) (list_of c.put_change.new.work) c.requires (rw c.in-Change.is at c.in_ok-change.ensures) put)

pub returns-in-Quiet : goal.returns-in-Quiet
returns-in-Quiet g c = λ program. both_done c.change_quietly.result c.change_quietly.ensures.state c.change_quietly.ensures.work (λ now put.
    quiet_put program (g.M.Kernel.state c.args.kernel.now) (map view (items_of c.args.args.now)) (target_of c.args.target) (list_of c.args.work.now) (g.M.Kernel.state c.change_quietly.new.kernel) (prim_of c.args.prim) (change_of c.in-Quiet.change) (list_of c.change_quietly.new.work) c.requires (rw c.in-Quiet.is at c.in_ok-change.ensures) now put)

pub returns-in-Nothing : goal.returns-in-Nothing
returns-in-Nothing g c = λ program. once_put c.put.result c.put.ensures.ok (λ put.
    nothing_put program (g.M.Kernel.state c.args.kernel.now) (map view (items_of c.args.args.now)) (target_of c.args.target) (list_of c.args.work.now) (prim_of c.args.prim) (view c.in-Nothing.value) (list_of c.put.new.self) c.requires (rw c.in-Nothing.is at c.in_ok-change.ensures) put)

pub returns-in-Fault : goal.returns-in-Fault
returns-in-Fault g c = λ program. once_put c.put-in-Fault.result c.put-in-Fault.ensures.ok (λ put.
    barred_put program (g.M.Kernel.state c.args.kernel.now) (map view (items_of c.args.args.now)) (target_of c.args.target) (list_of c.args.work.now) (prim_of c.args.prim) (fault_of c.in-Fault.fault) (list_of c.put-in-Fault.new.self) c.requires (rw c.in-Fault.is at c.in_ok-change.ensures) put)
