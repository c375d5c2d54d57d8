use Rattle.std.proofs.Common.{◌≡◌, map, take}
use Rattle.plain_machine.specs.Natives.{normal}
use Rattle.ek_types.specs.Listing.{items_of}
use Rattle.ek_call.specs.Meaning.{view}
use Rattle.handler_code.proofs.normal.+normal.Given as goal

abbrev pub invariant-normal_values-loop-i : goal.invariant-normal_values-loop-i
invariant-normal_values-loop-i l = map view (items_of l.copies) ≡ map normal (map view (take l.i (items_of l.values)))
