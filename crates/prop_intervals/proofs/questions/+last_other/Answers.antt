use Rattle.std.proofs.Common.{◌+◌, ◌-◌, sym, ap, ◌∙◌, option_map, arith}
use Rattle.ek_types.specs.Property.{number_of}
use Rattle.prop_intervals.specs.Tree.{run_of}
use Rattle.prop_intervals.specs.Others.{ends_of, last_from}
use Rattle.prop_intervals.proofs.OtherLemmas.{none_before_0, last_right, none_from, last_here, last_left, last_below, from_start}
use Rattle.prop_intervals.proofs.questions.+last_other.Goals as goal

pub returns-then-to-eq0 : goal.returns-then-to-eq0
returns-then-to-eq0 t c = none_before_0 c.args.from c.args.to _ c.if-to-eq0.true

pub overflow_add-result : goal.overflow_add-result
overflow_add-result t c =
    let below = last_below c.saturating_sub.result c.saturating_sub-in-Full.result _ c.in-Some.found (sym c.in-Some.is ∙ c.last_other-right.ensures) in
    omega (arith, below, c.saturating_sub-in-Full.ensures, c.ranges.to.fits)

pub returns-in-Some : goal.returns-in-Some
returns-in-Some t c =
    let n = c.deref-node.result.now in
    let name = option_map number_of c.args.name in
    let past = c.len.result + n.len in
    let right = from_start (λ f t. last_from f t (ends_of name c.args.set.now 0 n.right)) c.last_other-right.result (c.args.from - past) (c.args.to - past) c.saturating_sub.result c.saturating_sub-in-Full.result
    c.last_other-right.ensures c.saturating_sub.ensures c.saturating_sub-in-Full.ensures in
    rw (← c.tree.view_is, c.in-Full.is, ← c.deref-node.ensures)
    (last_right name c.args.set.now c.args.from c.args.to past c.in-Some.found n.left (run_of n) n.right (ap (λ k. k + n.len) c.len.ensures) (sym c.in-Some.is ∙ right))

pub returns-then-behind-from : goal.returns-then-behind-from
returns-then-behind-from t c =
    let n = c.deref-node.result.now in
    let name = option_map number_of c.args.name in
    let past = c.len.result + n.len in
    let right = from_start (λ f t. last_from f t (ends_of name c.args.set.now 0 n.right)) c.last_other-right.result (c.args.from - past) (c.args.to - past) c.saturating_sub.result c.saturating_sub-in-Full.result
    c.last_other-right.ensures c.saturating_sub.ensures c.saturating_sub-in-Full.ensures in
    rw (← c.tree.view_is, c.in-Full.is, ← c.deref-node.ensures)
    (none_from name c.args.set.now c.args.from c.args.to past n.left (run_of n) n.right (ap (λ k. k + n.len) c.len.ensures) (sym c.in_default.is ∙ right) (omega (arith, c.if-behind-from.true)))

pub returns-then-differ_where : goal.returns-then-differ_where
returns-then-differ_where t c =
    let n = c.deref-node.result.now in
    let name = option_map number_of c.args.name in
    let past = c.len.result + n.len in
    let right = from_start (λ f t. last_from f t (ends_of name c.args.set.now 0 n.right)) c.last_other-right.result (c.args.from - past) (c.args.to - past) c.saturating_sub.result c.saturating_sub-in-Full.result
    c.last_other-right.ensures c.saturating_sub.ensures c.saturating_sub-in-Full.ensures in
    rw (← c.tree.view_is, c.in-Full.is, ← c.deref-node.ensures)
    (last_here name c.args.set.now c.args.from c.args.to past n.left (run_of n) n.right (ap (λ k. k + n.len) c.len.ensures) (sym c.in_default.is ∙ right) (omega (arith, c.if-behind-from.false))
    (sym c.differ_where.ensures ∙ c.if-differ_where.true))

pub returns-else-differ_where : goal.returns-else-differ_where
returns-else-differ_where t c =
    let n = c.deref-node.result.now in
    let name = option_map number_of c.args.name in
    let past = c.len.result + n.len in
    let right = from_start (λ f t. last_from f t (ends_of name c.args.set.now 0 n.right)) c.last_other-right.result (c.args.from - past) (c.args.to - past) c.saturating_sub.result c.saturating_sub-in-Full.result
    c.last_other-right.ensures c.saturating_sub.ensures c.saturating_sub-in-Full.ensures in
    rw (← c.tree.view_is, c.in-Full.is, ← c.deref-node.ensures)
    (c.last_other.ensures ∙ last_left name c.args.set.now c.args.from c.args.to past n.left (run_of n) n.right (ap (λ k. k + n.len) c.len.ensures) (sym c.in_default.is ∙ right) (sym c.differ_where.ensures ∙ c.if-differ_where.false))
