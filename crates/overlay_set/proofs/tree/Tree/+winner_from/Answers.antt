use Rattle.std.proofs.Common.{◌+◌, ◌%◌, ◌^◌, [], ◌∷◌, map, length, refl, ap, ◌∙◌, arith}
use Rattle.overlay_set.specs.Slots.{bare_of}
use Rattle.overlay_set.specs.Entries.{IsMade, passes, raised}
use Rattle.overlay_set.specs.Winner.{strongest}
use Rattle.overlay_set.specs.declared.slot.Question.TheVariants.{At}
use Rattle.overlay_set.proofs.Parts.{node_parts, none_at, all_left, all_own, all_right}
use Rattle.overlay_set.proofs.Shifts.{node_at, left_below, right_below}
use Rattle.overlay_set.proofs.SearchLemmas.{strongest_none, strongest_three}
use Rattle.overlay_set.proofs.tree.Tree.+winner_from.Goals as goal

pub returns-then-not-may_pass-clause-exact : goal.returns-then-not-may_pass-clause-exact
returns-then-not-may_pass-clause-exact t c =
    strongest_none c.args.buffer c.args.i c.args.name.0 (map bare_of c.args.slots.now) c.args.best.now (map (raised c.args.base) c.args.self.now)
    (none_at (passes c.args.buffer (At c.args.i)) c.self.inside.root c.in-Full.node c.deref-node.result.now c.args.self.now c.args.base ((c.args.base + c.deref-node.result.now.shift) % 2 ^ 64) c.may_pass.result c.in-Full.is c.self.invariant c.self.view_is c.deref-node.ensures refl c.may_pass.ensures c.if-not-may_pass.true)

pub winner_from-requires : goal.winner_from-requires
winner_from-requires t c =
    let n = c.deref-node.result.now in
    let made = node_parts (IsMade (length c.args.slots.now)) c.self.inside.root c.in-Full.node n c.args.self.now c.in-Full.is c.self.view_is c.deref-node.ensures c.requires.made in
    (omega (arith, left_below c.self.inside.root c.in-Full.node c.deref-node.result.now c.args.self.now c.in-Full.is c.self.view_is c.deref-node.ensures), (all_left (IsMade (length c.args.slots.now)) n.left n.entry n.right made, c.requires.best))

pub stronger_where-requires-clause-made : goal.stronger_where-requires-clause-made
stronger_where-requires-clause-made t c =
    let n = c.deref-node.result.now in
    let made = node_parts (IsMade (length c.args.slots.now)) c.self.inside.root c.in-Full.node n c.args.self.now c.in-Full.is c.self.view_is c.deref-node.ensures c.requires.made in
    rw c.raised-entry.ensures (all_own (IsMade (length c.args.slots.now)) n.left n.entry n.right made)

pub winner_from-requires-in-Full : goal.winner_from-requires-in-Full
winner_from-requires-in-Full t c =
    let n = c.deref-node.result.now in
    let made = node_parts (IsMade (length c.args.slots.now)) c.self.inside.root c.in-Full.node n c.args.self.now c.in-Full.is c.self.view_is c.deref-node.ensures c.requires.made in
    (omega (arith, right_below c.self.inside.root c.in-Full.node c.deref-node.result.now c.args.self.now c.in-Full.is c.self.view_is c.deref-node.ensures), (all_right (IsMade (length c.args.slots.now)) n.left n.entry n.right made, c.stronger_where.ensures.made))

pub returns-else-not-may_pass-clause-exact : goal.returns-else-not-may_pass-clause-exact
returns-else-not-may_pass-clause-exact t c =
    let n = c.deref-node.result.now in
    let by = (c.args.base + c.deref-node.result.now.shift) % 2 ^ 64 in
    rw (node_at c.self.inside.root c.in-Full.node c.deref-node.result.now c.args.self.now c.args.base ((c.args.base + c.deref-node.result.now.shift) % 2 ^ 64) c.in-Full.is c.self.view_is c.deref-node.ensures refl)
    (strongest_three c.args.buffer c.args.i c.args.name.0 (map bare_of c.args.slots.now) c.args.best.now _ _ _ (map (raised by) n.left) (raised by n.entry) (map (raised by) n.right)
    c.winner_from.ensures.exact (c.stronger_where.ensures.exact ∙ ap (λ e. strongest c.args.buffer c.args.i c.args.name.0 (map bare_of c.args.slots.now) c.winner_from.new.best (e ∷ [])) c.raised-entry.ensures) c.winner_from-in-Full.ensures.exact)
