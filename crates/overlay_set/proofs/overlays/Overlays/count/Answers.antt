use Rattle.std.proofs.Common.{arith}
use Rattle.overlay_set.proofs.SeenLemmas.{length-view}
use Rattle.overlay_set.proofs.overlays.Overlays.count.Goals as goal

pub returns : goal.returns
returns c = omega (arith, c.len.ensures, c.self.inside.slots.ok.0, length-view c.self.inside.tree c.self.inside.slots.items c.args.self.now c.self.view_is)
