use Rattle.std.proofs.Common.{map, sym}
use Rattle.std.specs.Prelude.{option_map}
use Rattle.host_link.specs.Meaning.{exchange_of}
use Rattle.ek_types.specs.Listing.{items_of}
use Rattle.ek_call.specs.Faults.{fault_of}
use Rattle.ek_call.specs.Meaning.{view}
use Rattle.ek_call.specs.Primitives.{prim_of}
use Rattle.trace_check.specs.Meaning.{list_of, target_of}
use Rattle.trace_check.proofs.Turning.{quiet_refused}
use Rattle.trace_check.proofs.machine.call_process.Goals as goal

pub call_passed-requires : goal.call_passed-requires
call_passed-requires g c = record { place = c.requires.place; manner = c.requires.manner; passes = sym (rw c.in-None.is at c.refusal.ensures) }

pub returns-in-Some : goal.returns-in-Some
returns-in-Some g c = rw c.quiet.ensures
    (quiet_refused (g.P.Program.meant c.args.program.now) (option_map (λ x. exchange_of x.now) c.args.next) (g.M.Kernel.state c.args.kernel.now) (map view (items_of c.args.args)) (target_of c.args.target) (list_of c.args.work.now) (list_of c.put.new.self) (prim_of c.args.prim) (fault_of c.in-Some.fault) c.put.result c.requires.manner (rw c.in-Some.is at c.refusal.ensures) c.put.ensures.ok)
