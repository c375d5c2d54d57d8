use Rattle.std.proofs.Common.{◌+◌, nat_lt, sym, ◌∙◌}
use Rattle.overlay_set.proofs.SeenLemmas.{held-view}
use Rattle.overlay_set.proofs.WholeLemmas.{whole_least}
use Rattle.overlay_set.proofs.overlays.Overlays.next_change.Goals as goal

pub returns : goal.returns
returns c last = whole_least (λ x. nat_lt (c.args.i + 1) x) c.args.buffer last c.args.self.now c.self.inside.tree (held-view c.self.inside.tree c.self.inside.slots.items c.args.self.now c.self.view_is c.self.invariant.1) ∙ sym (c.next_change.ensures last)
