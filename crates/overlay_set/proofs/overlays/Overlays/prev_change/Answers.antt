use Rattle.std.proofs.Common.{◌+◌, nat_lt, sym, ◌∙◌}
use Rattle.overlay_set.proofs.SeenLemmas.{held-view}
use Rattle.overlay_set.proofs.WholeLemmas.{whole_greatest}
use Rattle.overlay_set.proofs.overlays.Overlays.prev_change.Goals as goal

pub returns : goal.returns
returns c first = whole_greatest (λ x. nat_lt x (c.args.i + 1)) c.args.buffer first c.args.self.now c.self.inside.tree (held-view c.self.inside.tree c.self.inside.slots.items c.args.self.now c.self.view_is c.self.invariant.1) ∙ sym (c.prev_change.ensures first)
