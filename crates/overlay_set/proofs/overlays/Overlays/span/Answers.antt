use Rattle.std.proofs.Common.{arith}
use Rattle.overlay_set.proofs.SeenLemmas.{length-view, held-view, stretch_is}
use Rattle.overlay_set.proofs.overlays.Overlays.span.Goals as goal

pub index-requires : goal.index-requires
index-requires c = omega (arith, c.requires, length-view c.self.inside.tree c.self.inside.slots.items c.args.self.now c.self.view_is)

pub returns : goal.returns
returns c = stretch_is c.args.self.now c.self.inside.tree c.args.k c.stretch.result (held-view c.self.inside.tree c.self.inside.slots.items c.args.self.now c.self.view_is c.self.invariant.1) c.requires c.stretch.ensures.found c.stretch.ensures.none
