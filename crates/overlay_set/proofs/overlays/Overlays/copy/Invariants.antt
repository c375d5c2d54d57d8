use Rattle.std.proofs.Common.{◌≡◌, map, take}
use Rattle.overlay_set.specs.Slots.{bare_of}
use Rattle.overlay_set.proofs.overlays.Overlays.copy.Given as goal

abbrev pub invariant-loop-slot : goal.invariant-loop-slot
invariant-loop-slot l = map bare_of l.slots.items ≡ map bare_of (take l.slot-index l.slot-items)
