use Rattle.std.proofs.Common.{[], ◌∷◌, ◌++◌, List, Option, IfSome, map, ap, subst, sym, ◌∙◌}
use Rattle.marker_set.specs.Blocks.{Block, IsFree}
use Rattle.marker_set.specs.Homes.{Kept, marker_in}
use Rattle.marker_set.proofs.LooseLemmas.{more_kept, more_view}
use Rattle.marker_set.proofs.markers.Markers.add_reserved.Goals as goal

pub invariant_of-self : goal.invariant_of-self
invariant_of-self c =
    let is = c.push_reserved.ensures.items ∙ ap (λ (xs : List Block). xs ++ c.in-Some.part ∷ []) c.move_to.ensures.items in
    subst (λ (xs : List Block). Kept xs c.self.inside.slots.items c.self.inside.some_alone) (sym is) (more_kept c.self.inside.parts.items c.in-Some.part (subst (λ (o : Option Block). IfSome o IsFree) c.in-Some.is c.requires.free) c.self.inside.slots.items c.self.inside.some_alone c.self.invariant)

pub returns : goal.returns
returns c =
    let is = c.push_reserved.ensures.items ∙ ap (λ (xs : List Block). xs ++ c.in-Some.part ∷ []) c.move_to.ensures.items in
    ap (λ (xs : List Block). map (marker_in xs) c.self.inside.slots.items) is
    ∙ more_view c.self.inside.parts.items c.in-Some.part (subst (λ (o : Option Block). IfSome o IsFree) c.in-Some.is c.requires.free) c.self.inside.slots.items c.self.inside.some_alone c.self.invariant
    ∙ c.self.view_is
