use Rattle.std.proofs.Common.{ap, sym, ◌∙◌, arith}
use Rattle.text_model.specs.Properties.{get}
use Rattle.text_model.specs.Marks.{Overlay}
use Rattle.overlay_set.proofs.Lists.{bare_at}
use Rattle.overlay_set.proofs.SeenLemmas.{length-view, bare-view}
use Rattle.overlay_set.proofs.overlays.Overlays.get.Goals as goal

pub index-requires : goal.index-requires
index-requires c = omega (arith, c.requires, length-view c.self.inside.tree c.self.inside.slots.items c.args.self.now c.self.view_is)

pub returns : goal.returns
returns c = c.get.ensures ∙ ap (λ (o : Overlay). get o.props c.args.name.0) (sym (bare_at c.self.inside.slots.items c.args.self.now c.args.k c.index.result.now (bare-view c.self.inside.tree c.self.inside.slots.items c.args.self.now c.self.view_is) c.requires c.index.ensures))
