use Rattle.std.proofs.Common.{List, All, subst, arith}
use Rattle.std.proofs.lemmas.List.{take_all}
use Rattle.std.proofs.lemmas.List.Elements.{All-more}
use Rattle.marker_set.specs.Homes.{IsNotAlone, no_slot}
use Rattle.marker_set.specs.declared.slot.Slot.{Slot}
use Rattle.marker_set.proofs.markers.any_alone.Goals as goal

pub loop-slot-preserved : goal.loop-slot-preserved
loop-slot-preserved c = All-more IsNotAlone c.args.slots.now c.loop-slot.slot-index no_slot (omega arith) c.loop-slot.invariant (c.is_alone.ensures c.if-is_alone.false)

pub returns : goal.returns
returns c = λ none. subst (λ (xs : List Slot). All IsNotAlone xs) (take_all c.loop-slot.slot-index c.args.slots.now (omega arith)) c.loop-slot.invariant
