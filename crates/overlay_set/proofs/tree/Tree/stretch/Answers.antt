use Rattle.overlay_set.proofs.Shifts.{whole_tree}
use Rattle.overlay_set.proofs.tree.Tree.stretch.Goals as goal

pub returns-then-is_some-clause-found : goal.returns-then-is_some-clause-found
returns-then-is_some-clause-found c = rw (whole_tree c.self.inside.root c.args.self.now c.self.view_is) at c.find-by_key.ensures.found

pub returns-clause-found : goal.returns-clause-found
returns-clause-found c = rw (whole_tree c.self.inside.root c.args.self.now c.self.view_is) at c.find.ensures.found
