use Rattle.std.proofs.Common.{List, All, subst}
use Rattle.marker_set.specs.Homes.{IsNotAlone}
use Rattle.marker_set.specs.declared.slot.Slot.{Slot}
use Rattle.marker_set.proofs.markers.Markers.look_for_alone.Goals as goal

pub invariant_of-self : goal.invariant_of-self
invariant_of-self c = record {
  count = c.self.invariant.count;
  there = c.self.invariant.there;
  back = c.self.invariant.back;
  alike = c.self.invariant.alike;
  packed = λ none. subst (λ (xs : List Slot). All IsNotAlone xs) c.as_slice.ensures.value (c.any_alone-some_alone.ensures none);
}
