use Rattle.std.proofs.Common.{◌≡◌, ◌+◌, ◌%◌, ◌^◌, map, nat_lt, filter, refl, ap, sym, ◌∙◌}
use Rattle.std.proofs.lemmas.List.Elements.{All-weaker}
use Rattle.text_model.specs.OverlayQuestions.{greatest}
use Rattle.overlay_set.specs.Numbered.{previous_or}
use Rattle.overlay_set.specs.Entries.{Holds, ends_at, raised}
use Rattle.overlay_set.proofs.Shifts.{bounds_at, node_at}
use Rattle.overlay_set.proofs.SearchLemmas.{greatest_stays, greatest_three}
use Rattle.overlay_set.proofs.tree.Tree.+prev_from.Goals as goal

pub returns-then-not-may_come_before : goal.returns-then-not-may_come_before
returns-then-not-may_come_before t c last =
    let es = map (raised c.args.base) c.args.self.now in
    let all = bounds_at c.self.inside.root c.in-Full.node c.deref-node.result.now c.raised.result c.args.self.now c.args.base ((c.args.base + c.deref-node.result.now.shift) % 2 ^ 64) c.in-Full.is c.self.invariant c.self.view_is c.deref-node.ensures refl c.raised.ensures in
    let n = previous_or last c.args.nearest in
    sym (greatest_stays n (λ x. nat_lt x (c.args.i + 1)) (ends_at c.args.buffer) es
    (All-weaker (Holds c.raised.result) (λ e. greatest n (filter (λ x. nat_lt x (c.args.i + 1)) (ends_at c.args.buffer e)) ≡ n)
    (λ e h. c.may_come_before.ensures e h c.if-not-may_come_before.true last) es all))

pub returns-else-not-may_come_before : goal.returns-else-not-may_come_before
returns-else-not-may_come_before t c last =
    let n = c.deref-node.result.now in
    let by = (c.args.base + c.deref-node.result.now.shift) % 2 ^ 64 in
    rw (node_at c.self.inside.root c.in-Full.node c.deref-node.result.now c.args.self.now c.args.base ((c.args.base + c.deref-node.result.now.shift) % 2 ^ 64) c.in-Full.is c.self.view_is c.deref-node.ensures refl)
    (greatest_three (λ x. nat_lt x (c.args.i + 1)) (ends_at c.args.buffer) (previous_or last c.args.nearest) _ _ _ (map (raised by) n.left) (raised by n.entry) (map (raised by) n.right)
    (c.prev_from-nearest.ensures last) (c.nearer_previous-nearest.ensures last ∙ ap (λ e. greatest (previous_or last c.prev_from-nearest.result) (filter (λ x. nat_lt x (c.args.i + 1)) (ends_at c.args.buffer e))) c.raised-in-Full.ensures) (c.prev_from.ensures last))
