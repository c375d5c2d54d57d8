use Rattle.std.proofs.Common.{map}
use Rattle.ek_types.specs.Listing.{items_of}
use Rattle.ek_call.specs.Meaning.{view}
use Rattle.kernel_state.specs.Meaning.{state_of}
use Rattle.kernel_state.proofs.Starts.{may_start}
use Rattle.kernel_state.proofs.starting.start.Goals as goal

pub start_in-requires-clause-may : goal.start_in-requires-clause-may
start_in-requires-clause-may g c = may_start (g.P.Program.meant c.args.program.now) (state_of c.args.kernel.now) (map view (items_of c.args.args.now)) c.requires.passes
