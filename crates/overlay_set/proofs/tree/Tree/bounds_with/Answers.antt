use Rattle.std.proofs.lemmas.List.Elements.{All-weaker}
use Rattle.overlay_set.specs.Entries.{Holds}
use Rattle.overlay_set.proofs.Parts.{full_bounds}
use Rattle.overlay_set.proofs.Shifts.{tree_in_range}
use Rattle.overlay_set.proofs.tree.Tree.bounds_with.Goals as goal

pub returns-in-Full-clause-all : goal.returns-in-Full-clause-all
returns-in-Full-clause-all c =
    All-weaker (Holds c.raised.result) (Holds c.joined.result) c.joined.ensures.others c.args.self.now
    (full_bounds c.self.inside.root c.in-Full.node c.deref-node.result.now c.raised.result c.args.self.now c.in-Full.is c.self.invariant c.self.view_is c.deref-node.ensures c.raised.ensures)

pub returns-in-Full-clause-range : goal.returns-in-Full-clause-range
returns-in-Full-clause-range c = tree_in_range c.self.inside.root c.args.self.now c.self.view_is

pub returns-in-Empty-clause-range : goal.returns-in-Empty-clause-range
returns-in-Empty-clause-range c = tree_in_range c.self.inside.root c.args.self.now c.self.view_is
