use Rattle.std.proofs.Common.{◌≡◌, None, map, slice_set, refl, ap, sym, ◌∙◌}
use Rattle.text_model.specs.Marks.{Overlay}
use Rattle.overlay_set.specs.Numbered.{overlay_at}
use Rattle.overlay_set.specs.Slots.{bare_of, bare}
use Rattle.overlay_set.specs.Entries.{entry_of, entries_from, HoldSame, without_all}
use Rattle.overlay_set.proofs.Lists.{bare_kept}
use Rattle.overlay_set.proofs.SeenLemmas.{bare-view, held-view, seen_is, held}
use Rattle.overlay_set.proofs.SlotLemmas.{removed}
use Rattle.overlay_set.proofs.overlays.Overlays.remove.Goals as goal

pub invariant_of-self : goal.invariant_of-self
invariant_of-self c =
    let items = c.self.inside.slots.items in
    let os = c.args.self.now in
    let k = c.args.k in
    let tree = c.self.inside.tree in
    let o : Overlay = record (overlay_at os k) { span = None } in
    let taken : c.take_out.new.tree ≡ without_all (entry_of k (overlay_at os k).span) tree = c.take_out.ensures ∙ ap (λ t. without_all (entry_of k t) tree) c.span-span.ensures in
    let holds : HoldSame c.take_out.new.tree (entries_from 0 (slice_set os k o)) = removed os tree c.take_out.new.tree k c.requires taken (held-view c.self.inside.tree c.self.inside.slots.items c.args.self.now c.self.view_is c.self.invariant.1) in
    let rest : map bare_of items ≡ map bare (slice_set os k o) = bare-view c.self.inside.tree c.self.inside.slots.items c.args.self.now c.self.view_is ∙ sym (bare_kept os k o c.requires refl) in
    (c.self.invariant.0, held items c.take_out.new.tree (slice_set os k o) holds rest)

pub returns : goal.returns
returns c =
    let items = c.self.inside.slots.items in
    let os = c.args.self.now in
    let k = c.args.k in
    let tree = c.self.inside.tree in
    let o : Overlay = record (overlay_at os k) { span = None } in
    let taken : c.take_out.new.tree ≡ without_all (entry_of k (overlay_at os k).span) tree = c.take_out.ensures ∙ ap (λ t. without_all (entry_of k t) tree) c.span-span.ensures in
    let holds : HoldSame c.take_out.new.tree (entries_from 0 (slice_set os k o)) = removed os tree c.take_out.new.tree k c.requires taken (held-view c.self.inside.tree c.self.inside.slots.items c.args.self.now c.self.view_is c.self.invariant.1) in
    let rest : map bare_of items ≡ map bare (slice_set os k o) = bare-view c.self.inside.tree c.self.inside.slots.items c.args.self.now c.self.view_is ∙ sym (bare_kept os k o c.requires refl) in
    seen_is items c.take_out.new.tree (slice_set os k o) holds rest
