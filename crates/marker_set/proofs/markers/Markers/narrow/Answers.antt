use Rattle.std.proofs.Common.{◌≡◌, ◌<◌, List, length, map, slice_set, ap, subst, sym, ◌∙◌, arith}
use Rattle.marker_set.specs.Blocks.{Block}
use Rattle.marker_set.specs.Homes.{Kept, marker_in}
use Rattle.marker_set.proofs.StepLemmas.{same_parts}
use Rattle.marker_set.proofs.markers.Markers.narrow.Goals as goal

pub invariant_of-self : goal.invariant_of-self
invariant_of-self c =
    let parts = c.self.inside.parts.items in
    let inside : c.args.part < length parts = omega (arith, c.len.ensures, c.if-part-len.true, c.self.inside.parts.ok.0) in
    let same : slice_set parts c.args.part c.narrow.new.self ≡ parts = same_parts parts c.args.part c.index_mut.result.now c.narrow.new.self inside c.index_mut.ensures.value c.narrow.ensures in
    subst (λ (ps : List Block). Kept ps c.self.inside.slots.items c.self.inside.some_alone) (sym same) c.self.invariant

pub returns-then-part-len : goal.returns-then-part-len
returns-then-part-len c =
    let parts = c.self.inside.parts.items in
    let inside : c.args.part < length parts = omega (arith, c.len.ensures, c.if-part-len.true, c.self.inside.parts.ok.0) in
    let same : slice_set parts c.args.part c.narrow.new.self ≡ parts = same_parts parts c.args.part c.index_mut.result.now c.narrow.new.self inside c.index_mut.ensures.value c.narrow.ensures in
    ap (λ (ps : List Block). map (marker_in ps) c.self.inside.slots.items) same ∙ c.self.view_is
