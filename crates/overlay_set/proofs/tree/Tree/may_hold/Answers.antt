use Rattle.overlay_set.proofs.Parts.{full_bounds, without_none}
use Rattle.overlay_set.proofs.tree.Tree.may_hold.Goals as goal

pub returns-in-Full : goal.returns-in-Full
returns-in-Full c excluded = without_none c.raised.result c.may_hold.result c.args.entry c.args.self.now c.may_hold.ensures excluded
    (full_bounds c.self.inside.root c.in-Full.node c.deref-node.result.now c.raised.result c.args.self.now c.in-Full.is c.self.invariant c.self.view_is c.deref-node.ensures c.raised.ensures)
