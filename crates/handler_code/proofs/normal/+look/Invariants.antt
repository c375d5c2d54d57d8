use Rattle.std.proofs.Common.{◌≡◌, map, take}
use Rattle.plain_machine.specs.Natives.{normal}
use Rattle.ek_types.specs.Listing.{items_of}
use Rattle.ek_call.specs.Meaning.{view}
use Rattle.handler_code.proofs.normal.+look.Given as goal

-- those in front are their own normal form
abbrev pub invariant-are_normal-loop-i : goal.invariant-are_normal-loop-i
invariant-are_normal-loop-i l = map view (take l.i (items_of l.values)) ≡ map normal (map view (take l.i (items_of l.values)))
