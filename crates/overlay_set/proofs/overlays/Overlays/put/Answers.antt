use Rattle.std.proofs.Common.{◌≡◌, map, slice_set, option_map, None, refl, ap, sym, ◌∙◌, arith}
use Rattle.std.proofs.lemmas.List.{length-set}
use Rattle.text_model.specs.Properties.{PropSet, put}
use Rattle.text_model.specs.Marks.{Overlay}
use Rattle.ek_types.specs.Property.{prop_of}
use Rattle.overlay_set.specs.Numbered.{overlay_at, given_of}
use Rattle.overlay_set.specs.Slots.{bare_of, bare}
use Rattle.overlay_set.specs.Entries.{entries_from, HoldSame}
use Rattle.overlay_set.specs.declared.slot.Slot.{Slot}
use Rattle.overlay_set.proofs.Lists.{bare_at, bare_set}
use Rattle.overlay_set.proofs.SeenLemmas.{bare-view, length-view, held-view, seen_is, held}
use Rattle.overlay_set.proofs.SlotLemmas.{kept}
use Rattle.overlay_set.proofs.overlays.Overlays.put.Goals as goal

pub index_mut-slot-requires : goal.index_mut-slot-requires
index_mut-slot-requires c = omega (arith, c.requires, length-view c.self.inside.tree c.self.inside.slots.items c.args.self.now c.self.view_is)

pub invariant_of-self-2 : goal.invariant_of-self-2
invariant_of-self-2 c =
    let items = c.self.inside.slots.items in
    let os = c.args.self.now in
    let k = c.args.k in
    let slot = c.index_mut-slot.result.now in
    let new : Slot = record slot { props = c.in_ok-slot.field-0 } in
    let given : Overlay → Overlay = λ o. record { span = o.span; front_advance = o.front_advance; rear_advance = o.rear_advance; props = put o.props c.args.name.0 (given_of (option_map (λ p. prop_of p.now) c.args.v)) } in
    let with_set : PropSet → Overlay = λ set. record { span = None; front_advance = slot.front; rear_advance = slot.rear; props = set } in
    let was : bare (overlay_at os k) ≡ bare_of slot = bare_at items os k slot (bare-view c.self.inside.tree c.self.inside.slots.items c.args.self.now c.self.view_is) c.requires c.index_mut-slot.ensures.value in
    let same : bare_of new ≡ bare (given (overlay_at os k)) = ap with_set c.in_ok-slot.ensures ∙ ap given (sym was) in
    let rest : map bare_of (slice_set items k new) ≡ map bare (slice_set os k (given (overlay_at os k))) = bare_set items os k new (given (overlay_at os k)) (bare-view c.self.inside.tree c.self.inside.slots.items c.args.self.now c.self.view_is) same in
    let holds : HoldSame c.self.inside.tree (entries_from 0 (slice_set os k (given (overlay_at os k)))) = kept os c.self.inside.tree k (given (overlay_at os k)) c.requires refl (held-view c.self.inside.tree c.self.inside.slots.items c.args.self.now c.self.view_is c.self.invariant.1) in
    (rw (length-set items k new) c.self.invariant.0, held (slice_set items k new) c.self.inside.tree (slice_set os k (given (overlay_at os k))) holds rest)

pub returns-clause-ok : goal.returns-clause-ok
returns-clause-ok c =
    let items = c.self.inside.slots.items in
    let os = c.args.self.now in
    let k = c.args.k in
    let slot = c.index_mut-slot.result.now in
    let new : Slot = record slot { props = c.in_ok-slot.field-0 } in
    let given : Overlay → Overlay = λ o. record { span = o.span; front_advance = o.front_advance; rear_advance = o.rear_advance; props = put o.props c.args.name.0 (given_of (option_map (λ p. prop_of p.now) c.args.v)) } in
    let with_set : PropSet → Overlay = λ set. record { span = None; front_advance = slot.front; rear_advance = slot.rear; props = set } in
    let was : bare (overlay_at os k) ≡ bare_of slot = bare_at items os k slot (bare-view c.self.inside.tree c.self.inside.slots.items c.args.self.now c.self.view_is) c.requires c.index_mut-slot.ensures.value in
    let same : bare_of new ≡ bare (given (overlay_at os k)) = ap with_set c.in_ok-slot.ensures ∙ ap given (sym was) in
    let rest : map bare_of (slice_set items k new) ≡ map bare (slice_set os k (given (overlay_at os k))) = bare_set items os k new (given (overlay_at os k)) (bare-view c.self.inside.tree c.self.inside.slots.items c.args.self.now c.self.view_is) same in
    let holds : HoldSame c.self.inside.tree (entries_from 0 (slice_set os k (given (overlay_at os k)))) = kept os c.self.inside.tree k (given (overlay_at os k)) c.requires refl (held-view c.self.inside.tree c.self.inside.slots.items c.args.self.now c.self.view_is c.self.invariant.1) in
    seen_is (slice_set items k new) c.self.inside.tree (slice_set os k (given (overlay_at os k))) holds rest
