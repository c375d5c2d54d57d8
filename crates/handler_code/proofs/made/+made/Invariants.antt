use Rattle.std.proofs.Common.{◌≡◌, map, drop}
use Rattle.std.specs.List.{list_all}
use Rattle.plain_machine.specs.Natives.{was_made}
use Rattle.ek_types.specs.Listing.{items_of}
use Rattle.ek_call.specs.Meaning.{view}
use Rattle.handler_code.specs.Counts.{program_with, state_with}
use Rattle.handler_code.proofs.made.+made.Given as goal

-- those in front were all made
abbrev pub invariant-are_made-loop-i : goal.invariant-are_made-loop-i
invariant-are_made-loop-i l = list_all (was_made (program_with l.made) (state_with l.made)) (map view (items_of l.values)) ≡ list_all (was_made (program_with l.made) (state_with l.made)) (drop l.i (map view (items_of l.values)))
