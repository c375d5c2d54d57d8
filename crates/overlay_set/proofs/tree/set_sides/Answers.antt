use Rattle.std.proofs.Common.{◌++◌, ◌∷◌}
use Rattle.std.proofs.lemmas.List.Elements.{All-append, All-cons}
use Rattle.overlay_set.specs.Entries.{InRange}
use Rattle.overlay_set.proofs.Parts.{joined_bounds}
use Rattle.overlay_set.proofs.Shifts.{all_raised_none}
use Rattle.overlay_set.proofs.tree.set_sides.Goals as goal

pub returns-clause-bounds : goal.returns-clause-bounds
returns-clause-bounds c =
    joined_bounds c.of-own.result c.bounds_with.result c.bounds_with-node.result c.args.left c.args.node.now.entry c.args.right
    c.bounds_with.ensures.all c.bounds_with.ensures.others c.of-own.ensures.holds c.bounds_with-node.ensures.all c.bounds_with-node.ensures.others

pub returns-clause-whole : goal.returns-clause-whole
returns-clause-whole c =
    let e = c.args.node.now.entry in
    all_raised_none (c.args.left ++ e ∷ c.args.right)
    (All-append InRange c.args.left (e ∷ c.args.right) c.bounds_with.ensures.range (All-cons InRange e c.args.right c.of-own.ensures.range c.bounds_with-node.ensures.range))
