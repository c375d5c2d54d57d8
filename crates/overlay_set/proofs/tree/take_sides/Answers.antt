use Rattle.std.proofs.Common.{length, ap, sym, ◌∙◌}
use Rattle.std.proofs.lemmas.List.{length-map}
use Rattle.overlay_set.specs.Entries.{raised}
use Rattle.overlay_set.proofs.Shifts.{three_raised}
use Rattle.overlay_set.proofs.tree.take_sides.Goals as goal

pub returns-clause-whole : goal.returns-clause-whole
returns-clause-whole c =
    let n = c.args.node.now in
    rw (c.raised.ensures, c.raised-node.ensures, c.raised-2.ensures, c.replace-left.ensures.value, c.replace-right.ensures.value)
    (sym (three_raised n.shift n.left n.entry n.right))

pub returns-clause-left : goal.returns-clause-left
returns-clause-left c =
    let n = c.args.node.now in
    ap length c.raised.ensures ∙ length-map c.replace-left.result (raised n.shift) ∙ ap length c.replace-left.ensures.value
