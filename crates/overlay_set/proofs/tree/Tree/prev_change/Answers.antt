use Rattle.overlay_set.proofs.Shifts.{whole_tree}
use Rattle.overlay_set.proofs.tree.Tree.prev_change.Goals as goal

pub returns : goal.returns
returns c first = rw (whole_tree c.self.inside.root c.args.self.now c.self.view_is) at c.prev_from.ensures first
