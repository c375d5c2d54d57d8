use Rattle.overlay_set.specs.Moves.{touches}
use Rattle.overlay_set.proofs.Parts.{full_bounds, none_passes}
use Rattle.overlay_set.proofs.tree.Tree.may_be_touched.Goals as goal

pub returns-in-Full : goal.returns-in-Full
returns-in-Full c excluded = none_passes (touches c.args.buffer c.args.change) c.raised.result c.may_be_touched.result c.args.self.now c.may_be_touched.ensures excluded
    (full_bounds c.self.inside.root c.in-Full.node c.deref-node.result.now c.raised.result c.args.self.now c.in-Full.is c.self.invariant c.self.view_is c.deref-node.ensures c.raised.ensures)
