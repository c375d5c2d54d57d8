use Rattle.std.proofs.Common.{arith}
use Rattle.overlay_set.proofs.Shifts.{left_below, right_below}
use Rattle.overlay_set.proofs.tree.Tree.+copy.Goals as goal

pub copy-requires : goal.copy-requires
copy-requires t c = (omega (arith, left_below c.self.inside.root c.in-Full.node c.deref-node.result.now c.args.self.now c.in-Full.is c.self.view_is c.deref-node.ensures), tt)

pub copy-requires-in-Full : goal.copy-requires-in-Full
copy-requires-in-Full t c = (omega (arith, right_below c.self.inside.root c.in-Full.node c.deref-node.result.now c.args.self.now c.in-Full.is c.self.view_is c.deref-node.ensures), tt)
