use Rattle.std.proofs.Common.{◌≡◌, ◌∷◌, map, get_or, slice_set, sym, arith}
use Rattle.std.proofs.lemmas.List.{length-set}
use Rattle.text_model.specs.Marks.{Overlay}
use Rattle.overlay_set.specs.Numbered.{overlay_at}
use Rattle.overlay_set.specs.Slots.{bare_of, bare, with_span}
use Rattle.overlay_set.specs.Entries.{entries_from, HoldSame}
use Rattle.overlay_set.specs.declared.slot.Slot.{Slot}
use Rattle.overlay_set.proofs.Lists.{bare_at, bare_set}
use Rattle.overlay_set.proofs.SeenLemmas.{bare-view, length-view, held-view, seen_is, held}
use Rattle.overlay_set.proofs.SlotLemmas.{placed}
use Rattle.overlay_set.proofs.overlays.Overlays.stand.Goals as goal

pub index_mut-requires : goal.index_mut-requires
index_mut-requires c = rw c.deref.ensures (omega (arith, c.requires.made, length-view c.self.inside.tree c.self.inside.slots.items c.args.self.now c.self.view_is))

pub invariant_of-self : goal.invariant_of-self
invariant_of-self c =
    let items = c.self.inside.slots.items in
    let os = c.args.self.now in
    let tree = c.self.inside.tree in
    let e = c.args.node.value.entry in
    let k = e.number in
    let slot = c.index_mut.result.now in
    let new : Slot = record slot { key = c.key_for-key.result } in
    let o : Overlay = with_span (overlay_at os k) e.stretch in
    let read : slot ≡ get_or items k slot = rw c.deref.ensures at c.index_mut.ensures.value in
    let was : bare (overlay_at os k) ≡ bare_of slot = bare_at items os k slot (bare-view c.self.inside.tree c.self.inside.slots.items c.args.self.now c.self.view_is) c.requires.made read in
    let rest : map bare_of (slice_set items k new) ≡ map bare (slice_set os k o) = bare_set items os k new o (bare-view c.self.inside.tree c.self.inside.slots.items c.args.self.now c.self.view_is) (sym was) in
    let put : HoldSame c.put.new.tree (e ∷ tree) = rw c.with_key.ensures at c.put.ensures in
    let holds : HoldSame c.put.new.tree (entries_from 0 (slice_set os k o)) = placed os tree c.put.new.tree k e.stretch c.requires.made c.requires.away put (held-view c.self.inside.tree c.self.inside.slots.items c.args.self.now c.self.view_is c.self.invariant.1) in
    rw c.deref.ensures (rw (length-set items k new) c.self.invariant.0, held (slice_set items k new) c.put.new.tree (slice_set os k o) holds rest)

pub returns : goal.returns
returns c =
    let items = c.self.inside.slots.items in
    let os = c.args.self.now in
    let tree = c.self.inside.tree in
    let e = c.args.node.value.entry in
    let k = e.number in
    let slot = c.index_mut.result.now in
    let new : Slot = record slot { key = c.key_for-key.result } in
    let o : Overlay = with_span (overlay_at os k) e.stretch in
    let read : slot ≡ get_or items k slot = rw c.deref.ensures at c.index_mut.ensures.value in
    let was : bare (overlay_at os k) ≡ bare_of slot = bare_at items os k slot (bare-view c.self.inside.tree c.self.inside.slots.items c.args.self.now c.self.view_is) c.requires.made read in
    let rest : map bare_of (slice_set items k new) ≡ map bare (slice_set os k o) = bare_set items os k new o (bare-view c.self.inside.tree c.self.inside.slots.items c.args.self.now c.self.view_is) (sym was) in
    let put : HoldSame c.put.new.tree (e ∷ tree) = rw c.with_key.ensures at c.put.ensures in
    let holds : HoldSame c.put.new.tree (entries_from 0 (slice_set os k o)) = placed os tree c.put.new.tree k e.stretch c.requires.made c.requires.away put (held-view c.self.inside.tree c.self.inside.slots.items c.args.self.now c.self.view_is c.self.invariant.1) in
    rw c.deref.ensures (seen_is (slice_set items k new) c.put.new.tree (slice_set os k o) holds rest)
