use Rattle.std.proofs.Common.{◌+◌, ◌-◌, None, Some, refl, sym, ◌∙◌, option_map, arith}
use Rattle.ek_types.specs.Property.{number_of}
use Rattle.prop_intervals.specs.Tree.{run_of}
use Rattle.prop_intervals.specs.Others.{starts_of, first_from}
use Rattle.prop_intervals.proofs.OtherLemmas.{not_there, found_left, none_behind, found_here, found_right, found_below, from_start}
use Rattle.prop_intervals.proofs.questions.+first_other.Goals as goal

pub returns-then-len-from : goal.returns-then-len-from
returns-then-len-from t c = not_there (option_map number_of c.args.name) c.args.set.now c.args.from c.args.to c.args.tree.now (omega (arith, c.len.ensures, c.if-len-from.true))

pub returns-in-Some : goal.returns-in-Some
returns-in-Some t c =
    let n = c.deref-node.result.now in
    rw (← c.tree.view_is, c.in-Full.is, ← c.deref-node.ensures)
    (found_left (option_map number_of c.args.name) c.args.set.now c.args.from c.args.to c.in-Some.found n.left (run_of n) n.right (sym c.in-Some.is ∙ c.first_other.ensures))

pub returns-then-to-front : goal.returns-then-to-front
returns-then-to-front t c =
    let n = c.deref-node.result.now in
    rw (← c.tree.view_is, c.in-Full.is, ← c.deref-node.ensures)
    (none_behind (option_map number_of c.args.name) c.args.set.now c.args.from c.args.to c.len-front.result n.left (run_of n) n.right c.len-front.ensures (sym c.in_default.is ∙ c.first_other.ensures) (omega (arith, c.if-to-front.true)))

pub returns-then-differ_where : goal.returns-then-differ_where
returns-then-differ_where t c =
    let n = c.deref-node.result.now in
    rw (← c.tree.view_is, c.in-Full.is, ← c.deref-node.ensures)
    (found_here (option_map number_of c.args.name) c.args.set.now c.args.from c.args.to c.len-front.result n.left (run_of n) n.right c.len-front.ensures (sym c.in_default.is ∙ c.first_other.ensures) (omega (arith, c.if-to-front.false))
    (sym c.differ_where.ensures ∙ c.if-differ_where.true))

pub returns-in_err-found-in-Full : goal.returns-in_err-found-in-Full
returns-in_err-found-in-Full t c =
    let n = c.deref-node.result.now in
    let name = option_map number_of c.args.name in
    let past = c.len-front.result + n.len in
    let found = from_start (λ f t. first_from f t (starts_of name c.args.set.now 0 n.right)) c.first_other-in-Full.result (c.args.from - past) (c.args.to - past) c.saturating_sub.result c.saturating_sub-in-Full.result
    c.first_other-in-Full.ensures c.saturating_sub.ensures c.saturating_sub-in-Full.ensures in
    rw (← c.tree.view_is, c.in-Full.is, ← c.deref-node.ensures)
    (c.from_residual.ensures
    ∙ found_right name c.args.set.now c.args.from c.args.to c.len-front.result past n.left (run_of n) n.right None c.len-front.ensures refl (sym c.in_default.is ∙ c.first_other.ensures)
    (sym c.differ_where.ensures ∙ c.if-differ_where.false) (sym c.in_err-found-in-Full.was ∙ found))

pub overflow_add-result : goal.overflow_add-result
overflow_add-result t c =
    let below = found_below c.saturating_sub.result c.saturating_sub-in-Full.result _ c.in_ok-found-in-Full.found (sym c.in_ok-found-in-Full.was ∙ c.first_other-in-Full.ensures) in
    omega (arith, below, c.saturating_sub-in-Full.ensures, c.ranges.to.fits)

pub returns-in_ok-found-in-Full : goal.returns-in_ok-found-in-Full
returns-in_ok-found-in-Full t c =
    let n = c.deref-node.result.now in
    let name = option_map number_of c.args.name in
    let past = c.len-front.result + n.len in
    let found = from_start (λ f t. first_from f t (starts_of name c.args.set.now 0 n.right)) c.first_other-in-Full.result (c.args.from - past) (c.args.to - past) c.saturating_sub.result c.saturating_sub-in-Full.result
    c.first_other-in-Full.ensures c.saturating_sub.ensures c.saturating_sub-in-Full.ensures in
    rw (← c.tree.view_is, c.in-Full.is, ← c.deref-node.ensures)
    (found_right name c.args.set.now c.args.from c.args.to c.len-front.result past n.left (run_of n) n.right (Some c.in_ok-found-in-Full.found) c.len-front.ensures refl (sym c.in_default.is ∙ c.first_other.ensures)
    (sym c.differ_where.ensures ∙ c.if-differ_where.false) (sym c.in_ok-found-in-Full.was ∙ found))
