use Rattle.std.proofs.Common.{◌≡◌, ◌≤◌, length, map, ap, ◌∙◌, arith}
use Rattle.std.proofs.lemmas.List.{take_all, length-map}
use Rattle.overlay_set.specs.Slots.{bare_of, bare}
use Rattle.overlay_set.specs.Entries.{entries_from, HoldSame}
use Rattle.overlay_set.proofs.SeenLemmas.{bare-view, held-view, seen_is, held}
use Rattle.overlay_set.proofs.overlays.Overlays.copy.Goals as goal

pub invariant_of-result : goal.invariant_of-result
invariant_of-result c =
    let items = c.self.inside.slots.items in
    let os = c.args.self.now in
    let its = c.deref-slot-items.result.now in
    let long : length its ≤ c.loop-slot.slot-index = omega (arith, c.loop-slot-test.false) in
    let all : map bare_of c.loop-slot.slots.items ≡ map bare_of items = c.loop-slot.invariant ∙ ap (map bare_of) (take_all c.loop-slot.slot-index its long ∙ c.deref-slot-items.ensures.value) in
    let rest : map bare_of c.loop-slot.slots.items ≡ map bare os = all ∙ bare-view c.self.inside.tree c.self.inside.slots.items c.args.self.now c.self.view_is in
    let same : c.in_ok-tree.tree ≡ c.self.inside.tree = c.in_ok-tree.ensures in
    let holds : HoldSame c.in_ok-tree.tree (entries_from 0 os) = rw same (held-view c.self.inside.tree c.self.inside.slots.items c.args.self.now c.self.view_is c.self.invariant.1) in
    let count : length c.loop-slot.slots.items ≡ length items = omega (arith, ap length all, length-map c.loop-slot.slots.items bare_of, length-map items bare_of) in
    (rw count c.self.invariant.0, held c.loop-slot.slots.items c.in_ok-tree.tree os holds rest)

pub returns : goal.returns
returns c =
    let items = c.self.inside.slots.items in
    let os = c.args.self.now in
    let its = c.deref-slot-items.result.now in
    let long : length its ≤ c.loop-slot.slot-index = omega (arith, c.loop-slot-test.false) in
    let all : map bare_of c.loop-slot.slots.items ≡ map bare_of items = c.loop-slot.invariant ∙ ap (map bare_of) (take_all c.loop-slot.slot-index its long ∙ c.deref-slot-items.ensures.value) in
    let rest : map bare_of c.loop-slot.slots.items ≡ map bare os = all ∙ bare-view c.self.inside.tree c.self.inside.slots.items c.args.self.now c.self.view_is in
    let same : c.in_ok-tree.tree ≡ c.self.inside.tree = c.in_ok-tree.ensures in
    let holds : HoldSame c.in_ok-tree.tree (entries_from 0 os) = rw same (held-view c.self.inside.tree c.self.inside.slots.items c.args.self.now c.self.view_is c.self.invariant.1) in
    seen_is c.loop-slot.slots.items c.in_ok-tree.tree os holds rest
