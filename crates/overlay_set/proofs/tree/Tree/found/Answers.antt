use Rattle.overlay_set.proofs.Shifts.{whole_tree}
use Rattle.overlay_set.proofs.tree.Tree.found.Goals as goal

pub returns : goal.returns
returns c = rw (← whole_tree c.self.inside.root c.args.self.now c.self.view_is) c.found_from.ensures
