use Rattle.std.proofs.Common.{All, take}
use Rattle.marker_set.specs.Homes.{IsNotAlone}
use Rattle.marker_set.proofs.markers.any_alone.Given as goal

abbrev pub invariant-loop-slot : goal.invariant-loop-slot
invariant-loop-slot l = All IsNotAlone (take l.slot-index l.slots)
