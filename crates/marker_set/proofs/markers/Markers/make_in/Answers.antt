use Rattle.std.proofs.Common.{◌+◌, ◌<◌, ◌^◌, [], ◌∷◌, ◌++◌, List, length, ap, subst, sym, ◌∙◌, arith}
use Rattle.std.proofs.lemmas.List.{length-map}
use Rattle.marker_set.specs.Homes.{no_slot, marker_in, Kept}
use Rattle.marker_set.specs.declared.slot.Slot.{Slot}
use Rattle.marker_set.proofs.LooseLemmas.{made_kept}
use Rattle.marker_set.proofs.markers.Markers.make_in.Goals as goal

pub invariant_of-self : goal.invariant_of-self
invariant_of-self c =
    let slots = c.self.inside.slots.items in
    let is = c.push_reserved.ensures.items ∙ ap (λ (xs : List Slot). xs ++ no_slot ∷ []) c.move_to.ensures.items in
    let few : length slots + 1 < 2 ^ 32 = omega (arith, length-map slots (marker_in c.self.inside.parts.items), ap length c.self.view_is, c.requires.few) in
    subst (λ (xs : List Slot). Kept c.self.inside.parts.items xs c.self.inside.some_alone) (sym is) (made_kept c.self.inside.parts.items slots c.self.inside.some_alone c.self.invariant few)
