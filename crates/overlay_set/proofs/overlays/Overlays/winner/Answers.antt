use Rattle.std.proofs.Common.{All, subst, ◌∙◌}
use Rattle.overlay_set.specs.Entries.{IsMade}
use Rattle.overlay_set.proofs.SeenLemmas.{bare-view, length-view, held-view}
use Rattle.overlay_set.proofs.WholeLemmas.{whole_made, winner_alike}
use Rattle.overlay_set.proofs.overlays.Overlays.winner.Goals as goal

pub winner-requires : goal.winner-requires
winner-requires c =
    let made = whole_made c.args.self.now c.self.inside.tree (held-view c.self.inside.tree c.self.inside.slots.items c.args.self.now c.self.view_is c.self.invariant.1) in
    rw c.as_slice.ensures.value (subst (λ n. All (IsMade n) c.self.inside.tree) (length-view c.self.inside.tree c.self.inside.slots.items c.args.self.now c.self.view_is) made)

pub returns : goal.returns
returns c =
    c.winner.ensures ∙ rw c.as_slice.ensures.value (winner_alike c.args.buffer c.args.i c.args.name.0 c.self.inside.slots.items c.args.self.now c.self.inside.tree (bare-view c.self.inside.tree c.self.inside.slots.items c.args.self.now c.self.view_is) (held-view c.self.inside.tree c.self.inside.slots.items c.args.self.now c.self.view_is c.self.invariant.1))
