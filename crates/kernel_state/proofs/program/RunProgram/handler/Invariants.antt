use Rattle.std.proofs.Common.{◌≡◌, map, drop}
use Rattle.plain_machine.specs.Arguments.{handler_def}
use Rattle.ek_types.specs.Listing.{items_of}
use Rattle.ek_call.specs.Meaning.{handler_of}
use Rattle.kernel_state.proofs.program.RunProgram.handler.Given as goal

abbrev pub invariant-loop-i : goal.invariant-loop-i
invariant-loop-i g l =
    let defs = map handler_of (items_of l.self.handlers.now) in
    handler_def (drop l.i defs) l.name.0 ≡ handler_def defs l.name.0
