use Rattle.std.proofs.Common.{◌≡◌, ◌+◌, ◌%◌, ◌^◌, map, nat_lt, filter, refl, ap, sym, ◌∙◌}
use Rattle.std.proofs.lemmas.List.Elements.{All-weaker}
use Rattle.text_model.specs.OverlayQuestions.{least}
use Rattle.overlay_set.specs.Numbered.{next_or}
use Rattle.overlay_set.specs.Entries.{Holds, ends_at, raised}
use Rattle.overlay_set.proofs.Shifts.{bounds_at, node_at}
use Rattle.overlay_set.proofs.SearchLemmas.{least_stays, least_three}
use Rattle.overlay_set.proofs.tree.Tree.+next_from.Goals as goal

pub returns-then-not-may_come_next : goal.returns-then-not-may_come_next
returns-then-not-may_come_next t c last =
    let es = map (raised c.args.base) c.args.self.now in
    let all = bounds_at c.self.inside.root c.in-Full.node c.deref-node.result.now c.raised.result c.args.self.now c.args.base ((c.args.base + c.deref-node.result.now.shift) % 2 ^ 64) c.in-Full.is c.self.invariant c.self.view_is c.deref-node.ensures refl c.raised.ensures in
    let n = next_or last c.args.nearest in
    sym (least_stays n (λ x. nat_lt (c.args.i + 1) x) (ends_at c.args.buffer) es
    (All-weaker (Holds c.raised.result) (λ e. least n (filter (λ x. nat_lt (c.args.i + 1) x) (ends_at c.args.buffer e)) ≡ n)
    (λ e h. c.may_come_next.ensures e h c.if-not-may_come_next.true last) es all))

pub returns-else-not-may_come_next : goal.returns-else-not-may_come_next
returns-else-not-may_come_next t c last =
    let n = c.deref-node.result.now in
    let by = (c.args.base + c.deref-node.result.now.shift) % 2 ^ 64 in
    rw (node_at c.self.inside.root c.in-Full.node c.deref-node.result.now c.args.self.now c.args.base ((c.args.base + c.deref-node.result.now.shift) % 2 ^ 64) c.in-Full.is c.self.view_is c.deref-node.ensures refl)
    (least_three (λ x. nat_lt (c.args.i + 1) x) (ends_at c.args.buffer) (next_or last c.args.nearest) _ _ _ (map (raised by) n.left) (raised by n.entry) (map (raised by) n.right)
    (c.next_from-nearest.ensures last) (c.nearer_next-nearest.ensures last ∙ ap (λ e. least (next_or last c.next_from-nearest.result) (filter (λ x. nat_lt (c.args.i + 1) x) (ends_at c.args.buffer e))) c.raised-in-Full.ensures) (c.next_from.ensures last))
