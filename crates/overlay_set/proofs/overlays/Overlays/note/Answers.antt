use Rattle.std.proofs.Common.{◌≡◌, All, map, ap, sym, subst, ◌∙◌}
use Rattle.std.specs.List.{flat_map}
use Rattle.overlay_set.specs.Slots.{bare_of, bare, moved_by}
use Rattle.overlay_set.specs.Entries.{IsMade, entries_from, HoldSame}
use Rattle.overlay_set.specs.Moves.{moved_entry}
use Rattle.overlay_set.proofs.ChangeLemmas.{moved_alike, bare_moved}
use Rattle.overlay_set.proofs.SeenLemmas.{bare-view, length-view, held-view, seen_is, held}
use Rattle.overlay_set.proofs.WholeLemmas.{whole_made, whole_can_move, whole_entries}
use Rattle.overlay_set.proofs.overlays.Overlays.note.Goals as goal

pub move_in-requires-clause-made : goal.move_in-requires-clause-made
move_in-requires-clause-made c =
    let made = whole_made c.args.self.now c.self.inside.tree (held-view c.self.inside.tree c.self.inside.slots.items c.args.self.now c.self.view_is c.self.invariant.1) in
    rw c.as_slice.ensures.value (subst (λ n. All (IsMade n) c.self.inside.tree) (length-view c.self.inside.tree c.self.inside.slots.items c.args.self.now c.self.view_is) made)

pub move_in-requires-clause-can : goal.move_in-requires-clause-can
move_in-requires-clause-can c = whole_can_move c.args.buffer c.args.change c.args.self.now c.self.inside.tree (held-view c.self.inside.tree c.self.inside.slots.items c.args.self.now c.self.view_is c.self.invariant.1) c.requires

pub invariant_of-self : goal.invariant_of-self
invariant_of-self c =
    let items = c.self.inside.slots.items in
    let os = c.args.self.now in
    let b = c.args.buffer in
    let change = c.args.change in
    let tree = c.self.inside.tree in
    let entries : c.move_in.new.tree ≡ flat_map (moved_entry b change os) tree = c.move_in.ensures ∙ ap (λ xs. flat_map (moved_entry b change (map bare_of xs)) tree) c.as_slice.ensures.value ∙ moved_alike b change items os tree (bare-view c.self.inside.tree c.self.inside.slots.items c.args.self.now c.self.view_is) in
    let holds : HoldSame c.move_in.new.tree (entries_from 0 (map (moved_by b change) os)) = rw entries (whole_entries b change os tree (held-view c.self.inside.tree c.self.inside.slots.items c.args.self.now c.self.view_is c.self.invariant.1)) in
    let rest : map bare_of items ≡ map bare (map (moved_by b change) os) = bare-view c.self.inside.tree c.self.inside.slots.items c.args.self.now c.self.view_is ∙ sym (bare_moved b change os) in
    (c.self.invariant.0, held items c.move_in.new.tree (map (moved_by b change) os) holds rest)

pub returns : goal.returns
returns c =
    let items = c.self.inside.slots.items in
    let os = c.args.self.now in
    let b = c.args.buffer in
    let change = c.args.change in
    let tree = c.self.inside.tree in
    let entries : c.move_in.new.tree ≡ flat_map (moved_entry b change os) tree = c.move_in.ensures ∙ ap (λ xs. flat_map (moved_entry b change (map bare_of xs)) tree) c.as_slice.ensures.value ∙ moved_alike b change items os tree (bare-view c.self.inside.tree c.self.inside.slots.items c.args.self.now c.self.view_is) in
    let holds : HoldSame c.move_in.new.tree (entries_from 0 (map (moved_by b change) os)) = rw entries (whole_entries b change os tree (held-view c.self.inside.tree c.self.inside.slots.items c.args.self.now c.self.view_is c.self.invariant.1)) in
    let rest : map bare_of items ≡ map bare (map (moved_by b change) os) = bare-view c.self.inside.tree c.self.inside.slots.items c.args.self.now c.self.view_is ∙ sym (bare_moved b change os) in
    seen_is items c.move_in.new.tree (map (moved_by b change) os) holds rest
