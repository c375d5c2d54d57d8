use Rattle.std.proofs.Common.{◌≡◌, ◌-◌, Box, Global, [], ◌∷◌, ◌++◌, length, refl, ap, sym, ◌∙◌, arith, length-append}
use Rattle.prop_intervals.specs.Runs.{size, before, behind}
use Rattle.prop_intervals.specs.Tree.{run_of}
use Rattle.prop_intervals.specs.declared.tree.Node.{Node}
use Rattle.prop_intervals.proofs.RunLemmas.{size-append, size-before, size-behind, can_cut-front, can_cut-right, before-front, before-between, before-right, before-within, behind-front, behind-between, behind-right, behind-within}
use Rattle.prop_intervals.proofs.cut.+cut.Goals as goal

pub cut-a-requires : goal.cut-a-requires
cut-a-requires t c =
    let n = c.take_sides-left.new.node in
    let left = c.take_sides-left.result.0 in
    let right = c.take_sides-left.result.1 in
    let value : c.deref_mut.result.now ≡ c.in-Full.node.value = c.deref_mut.ensures.value ∙ ap (λ (b : Box Node Global). b.value) c.in-Full.node-is in
    let seen : c.args.tree ≡ left ++ run_of n ∷ right = rw (← c.tree.view_is, c.in-Full.is, ← value, c.take_sides-left.ensures.left, c.take_sides-left.ensures.right, c.take_sides-left.ensures.run) refl in
    (omega (arith, c.decreases, ap length seen, length-append left (run_of n ∷ right)), can_cut-front c.args.at left (run_of n ∷ right) c.args.spare.value.set (omega arith) (rw seen at c.requires))

pub join-requires : goal.join-requires
join-requires t c =
    let n = c.take_sides-left.new.node in
    let left = c.take_sides-left.result.0 in
    let right = c.take_sides-left.result.1 in
    let value : c.deref_mut.result.now ≡ c.in-Full.node.value = c.deref_mut.ensures.value ∙ ap (λ (b : Box Node Global). b.value) c.in-Full.node-is in
    let seen : c.args.tree ≡ left ++ run_of n ∷ right = rw (← c.tree.view_is, c.in-Full.is, ← value, c.take_sides-left.ensures.left, c.take_sides-left.ensures.right, c.take_sides-left.ensures.run) refl in
    let read : c.deref.result.now ≡ c.in-Full.node.value = c.deref.ensures ∙ ap (λ (b : Box Node Global). b.value) c.in-Full.node-is in
    let total : c.deref.result.now.total ≡ size c.args.tree = rw (← c.tree.view_is, c.in-Full.is, read) (rw c.in-Full.is at c.tree.invariant) in
    omega (arith, total, ap size seen, size-append left (run_of n ∷ right), ap size c.cut-a.ensures.back, size-behind c.args.at left)

pub returns-then-at-front-clause-front : goal.returns-then-at-front-clause-front
returns-then-at-front-clause-front t c =
    let n = c.take_sides-left.new.node in
    let left = c.take_sides-left.result.0 in
    let right = c.take_sides-left.result.1 in
    let value : c.deref_mut.result.now ≡ c.in-Full.node.value = c.deref_mut.ensures.value ∙ ap (λ (b : Box Node Global). b.value) c.in-Full.node-is in
    let seen : c.args.tree ≡ left ++ run_of n ∷ right = rw (← c.tree.view_is, c.in-Full.is, ← value, c.take_sides-left.ensures.left, c.take_sides-left.ensures.right, c.take_sides-left.ensures.run) refl in
    c.cut-a.ensures.front ∙ sym (before-front c.args.at left (run_of n ∷ right) (omega arith)) ∙ ap (before c.args.at) (sym seen)

pub returns-then-at-front-clause-back : goal.returns-then-at-front-clause-back
returns-then-at-front-clause-back t c =
    let n = c.take_sides-left.new.node in
    let left = c.take_sides-left.result.0 in
    let right = c.take_sides-left.result.1 in
    let value : c.deref_mut.result.now ≡ c.in-Full.node.value = c.deref_mut.ensures.value ∙ ap (λ (b : Box Node Global). b.value) c.in-Full.node-is in
    let seen : c.args.tree ≡ left ++ run_of n ∷ right = rw (← c.tree.view_is, c.in-Full.is, ← value, c.take_sides-left.ensures.left, c.take_sides-left.ensures.right, c.take_sides-left.ensures.run) refl in
    c.join.ensures ∙ ap (λ b. b ++ run_of n ∷ right) c.cut-a.ensures.back ∙ sym (behind-front c.args.at left (run_of n ∷ right) (omega arith)) ∙ ap (behind c.args.at) (sym seen)

pub cut-a-requires-then-at-front-2 : goal.cut-a-requires-then-at-front-2
cut-a-requires-then-at-front-2 t c =
    let n = c.take_sides-left.new.node in
    let left = c.take_sides-left.result.0 in
    let right = c.take_sides-left.result.1 in
    let value : c.deref_mut.result.now ≡ c.in-Full.node.value = c.deref_mut.ensures.value ∙ ap (λ (b : Box Node Global). b.value) c.in-Full.node-is in
    let seen : c.args.tree ≡ left ++ run_of n ∷ right = rw (← c.tree.view_is, c.in-Full.is, ← value, c.take_sides-left.ensures.left, c.take_sides-left.ensures.right, c.take_sides-left.ensures.run) refl in
    let own : c.deref-in-Full.result.now.len ≡ n.len = ap (λ (m : Node). m.len) c.deref-in-Full.ensures in
    (omega (arith, c.decreases, ap length seen, length-append left (run_of n ∷ right)), can_cut-right c.args.at c.len-front.result c.deref-in-Full.result.now.len left (run_of n) right c.args.spare.value.set c.len-front.ensures own c.if-at-front.false c.if-at-front-2.true (rw seen at c.requires))

pub join-requires-then-at-front-2 : goal.join-requires-then-at-front-2
join-requires-then-at-front-2 t c =
    let n = c.take_sides-left.new.node in
    let left = c.take_sides-left.result.0 in
    let right = c.take_sides-left.result.1 in
    let value : c.deref_mut.result.now ≡ c.in-Full.node.value = c.deref_mut.ensures.value ∙ ap (λ (b : Box Node Global). b.value) c.in-Full.node-is in
    let seen : c.args.tree ≡ left ++ run_of n ∷ right = rw (← c.tree.view_is, c.in-Full.is, ← value, c.take_sides-left.ensures.left, c.take_sides-left.ensures.right, c.take_sides-left.ensures.run) refl in
    let read : c.deref.result.now ≡ c.in-Full.node.value = c.deref.ensures ∙ ap (λ (b : Box Node Global). b.value) c.in-Full.node-is in
    let total : c.deref.result.now.total ≡ size c.args.tree = rw (← c.tree.view_is, c.in-Full.is, read) (rw c.in-Full.is at c.tree.invariant) in
    omega (arith, total, ap size seen, size-append left (run_of n ∷ right), ap size c.cut-a-then-at-front-2.ensures.front, size-before (c.args.at - c.len-front.result - c.deref-in-Full.result.now.len) right)

pub returns-then-at-front-2-clause-front : goal.returns-then-at-front-2-clause-front
returns-then-at-front-2-clause-front t c =
    let n = c.take_sides-left.new.node in
    let left = c.take_sides-left.result.0 in
    let right = c.take_sides-left.result.1 in
    let value : c.deref_mut.result.now ≡ c.in-Full.node.value = c.deref_mut.ensures.value ∙ ap (λ (b : Box Node Global). b.value) c.in-Full.node-is in
    let seen : c.args.tree ≡ left ++ run_of n ∷ right = rw (← c.tree.view_is, c.in-Full.is, ← value, c.take_sides-left.ensures.left, c.take_sides-left.ensures.right, c.take_sides-left.ensures.run) refl in
    let own : c.deref-in-Full.result.now.len ≡ n.len = ap (λ (m : Node). m.len) c.deref-in-Full.ensures in
    c.join-then-at-front-2.ensures ∙ before-right c.args.at c.len-front.result c.deref-in-Full.result.now.len left (run_of n) right c.cut-a-then-at-front-2.result.0 c.len-front.ensures own c.if-at-front.false c.if-at-front-2.true c.cut-a-then-at-front-2.ensures.front ∙ ap (before c.args.at) (sym seen)

pub returns-then-at-front-2-clause-back : goal.returns-then-at-front-2-clause-back
returns-then-at-front-2-clause-back t c =
    let n = c.take_sides-left.new.node in
    let left = c.take_sides-left.result.0 in
    let right = c.take_sides-left.result.1 in
    let value : c.deref_mut.result.now ≡ c.in-Full.node.value = c.deref_mut.ensures.value ∙ ap (λ (b : Box Node Global). b.value) c.in-Full.node-is in
    let seen : c.args.tree ≡ left ++ run_of n ∷ right = rw (← c.tree.view_is, c.in-Full.is, ← value, c.take_sides-left.ensures.left, c.take_sides-left.ensures.right, c.take_sides-left.ensures.run) refl in
    let own : c.deref-in-Full.result.now.len ≡ n.len = ap (λ (m : Node). m.len) c.deref-in-Full.ensures in
    behind-right c.args.at c.len-front.result c.deref-in-Full.result.now.len left (run_of n) right c.cut-a-then-at-front-2.result.1 c.len-front.ensures own c.if-at-front.false c.if-at-front-2.true c.cut-a-then-at-front-2.ensures.back ∙ ap (behind c.args.at) (sym seen)

pub join-requires-then-at-front-3 : goal.join-requires-then-at-front-3
join-requires-then-at-front-3 t c =
    let n = c.take_sides-left.new.node in
    let left = c.take_sides-left.result.0 in
    let right = c.take_sides-left.result.1 in
    let value : c.deref_mut.result.now ≡ c.in-Full.node.value = c.deref_mut.ensures.value ∙ ap (λ (b : Box Node Global). b.value) c.in-Full.node-is in
    let seen : c.args.tree ≡ left ++ run_of n ∷ right = rw (← c.tree.view_is, c.in-Full.is, ← value, c.take_sides-left.ensures.left, c.take_sides-left.ensures.right, c.take_sides-left.ensures.run) refl in
    let read : c.deref.result.now ≡ c.in-Full.node.value = c.deref.ensures ∙ ap (λ (b : Box Node Global). b.value) c.in-Full.node-is in
    let total : c.deref.result.now.total ≡ size c.args.tree = rw (← c.tree.view_is, c.in-Full.is, read) (rw c.in-Full.is at c.tree.invariant) in
    omega (arith, total, ap size seen, size-append left (run_of n ∷ right), ap size c.new-then-at-front-3.ensures)

pub returns-then-at-front-3-clause-front : goal.returns-then-at-front-3-clause-front
returns-then-at-front-3-clause-front t c =
    let n = c.take_sides-left.new.node in
    let left = c.take_sides-left.result.0 in
    let right = c.take_sides-left.result.1 in
    let value : c.deref_mut.result.now ≡ c.in-Full.node.value = c.deref_mut.ensures.value ∙ ap (λ (b : Box Node Global). b.value) c.in-Full.node-is in
    let seen : c.args.tree ≡ left ++ run_of n ∷ right = rw (← c.tree.view_is, c.in-Full.is, ← value, c.take_sides-left.ensures.left, c.take_sides-left.ensures.right, c.take_sides-left.ensures.run) refl in
    let own : c.deref-in-Full.result.now.len ≡ n.len = ap (λ (m : Node). m.len) c.deref-in-Full.ensures in
    sym (before-between c.args.at left (run_of n) right (omega arith) (omega (arith, own))) ∙ ap (before c.args.at) (sym seen)

pub returns-then-at-front-3-clause-back : goal.returns-then-at-front-3-clause-back
returns-then-at-front-3-clause-back t c =
    let n = c.take_sides-left.new.node in
    let left = c.take_sides-left.result.0 in
    let right = c.take_sides-left.result.1 in
    let value : c.deref_mut.result.now ≡ c.in-Full.node.value = c.deref_mut.ensures.value ∙ ap (λ (b : Box Node Global). b.value) c.in-Full.node-is in
    let seen : c.args.tree ≡ left ++ run_of n ∷ right = rw (← c.tree.view_is, c.in-Full.is, ← value, c.take_sides-left.ensures.left, c.take_sides-left.ensures.right, c.take_sides-left.ensures.run) refl in
    let own : c.deref-in-Full.result.now.len ≡ n.len = ap (λ (m : Node). m.len) c.deref-in-Full.ensures in
    c.join-then-at-front-3.ensures ∙ ap (λ b. b ++ run_of n ∷ right) c.new-then-at-front-3.ensures ∙ sym (behind-between c.args.at left (run_of n) right (omega arith) (omega (arith, own))) ∙ ap (behind c.args.at) (sym seen)

pub join-requires-in-Full : goal.join-requires-in-Full
join-requires-in-Full t c =
    let n = c.take_sides-left.new.node in
    let left = c.take_sides-left.result.0 in
    let right = c.take_sides-left.result.1 in
    let value : c.deref_mut.result.now ≡ c.in-Full.node.value = c.deref_mut.ensures.value ∙ ap (λ (b : Box Node Global). b.value) c.in-Full.node-is in
    let seen : c.args.tree ≡ left ++ run_of n ∷ right = rw (← c.tree.view_is, c.in-Full.is, ← value, c.take_sides-left.ensures.left, c.take_sides-left.ensures.right, c.take_sides-left.ensures.run) refl in
    let read : c.deref.result.now ≡ c.in-Full.node.value = c.deref.ensures ∙ ap (λ (b : Box Node Global). b.value) c.in-Full.node-is in
    let total : c.deref.result.now.total ≡ size c.args.tree = rw (← c.tree.view_is, c.in-Full.is, read) (rw c.in-Full.is at c.tree.invariant) in
    let own : c.deref-in-Full.result.now.len ≡ n.len = ap (λ (m : Node). m.len) c.deref-in-Full.ensures in
    omega (arith, total, own, ap size seen, size-append left (run_of n ∷ right), ap size c.new-in-Full.ensures)

pub join-requires-in-Full-2 : goal.join-requires-in-Full-2
join-requires-in-Full-2 t c =
    let n = c.take_sides-left.new.node in
    let left = c.take_sides-left.result.0 in
    let right = c.take_sides-left.result.1 in
    let value : c.deref_mut.result.now ≡ c.in-Full.node.value = c.deref_mut.ensures.value ∙ ap (λ (b : Box Node Global). b.value) c.in-Full.node-is in
    let seen : c.args.tree ≡ left ++ run_of n ∷ right = rw (← c.tree.view_is, c.in-Full.is, ← value, c.take_sides-left.ensures.left, c.take_sides-left.ensures.right, c.take_sides-left.ensures.run) refl in
    let read : c.deref.result.now ≡ c.in-Full.node.value = c.deref.ensures ∙ ap (λ (b : Box Node Global). b.value) c.in-Full.node-is in
    let total : c.deref.result.now.total ≡ size c.args.tree = rw (← c.tree.view_is, c.in-Full.is, read) (rw c.in-Full.is at c.tree.invariant) in
    let own : c.deref-in-Full.result.now.len ≡ n.len = ap (λ (m : Node). m.len) c.deref-in-Full.ensures in
    omega (arith, total, own, ap size seen, size-append left (run_of n ∷ right), ap size c.new-in-Full-2.ensures)

pub returns-else-at-front-3-clause-front : goal.returns-else-at-front-3-clause-front
returns-else-at-front-3-clause-front t c =
    let n = c.take_sides-left.new.node in
    let left = c.take_sides-left.result.0 in
    let right = c.take_sides-left.result.1 in
    let value : c.deref_mut.result.now ≡ c.in-Full.node.value = c.deref_mut.ensures.value ∙ ap (λ (b : Box Node Global). b.value) c.in-Full.node-is in
    let seen : c.args.tree ≡ left ++ run_of n ∷ right = rw (← c.tree.view_is, c.in-Full.is, ← value, c.take_sides-left.ensures.left, c.take_sides-left.ensures.right, c.take_sides-left.ensures.run) refl in
    let own : c.deref-in-Full.result.now.len ≡ n.len = ap (λ (m : Node). m.len) c.deref-in-Full.ensures in
    c.join-in-Full.ensures ∙ ap (λ b. left ++ (c.deref_mut-in-Full-2.result.now.set, c.args.at - c.len-front.result) ∷ b) c.new-in-Full.ensures
    ∙ ap (λ (m : Node). left ++ (m.set, c.args.at - c.len-front.result) ∷ []) c.deref_mut-in-Full-2.ensures.value
    ∙ before-within c.args.at c.len-front.result left (run_of n) right c.len-front.ensures (omega arith) (omega (arith, own)) ∙ ap (before c.args.at) (sym seen)

pub returns-else-at-front-3-clause-back : goal.returns-else-at-front-3-clause-back
returns-else-at-front-3-clause-back t c =
    let n = c.take_sides-left.new.node in
    let left = c.take_sides-left.result.0 in
    let right = c.take_sides-left.result.1 in
    let value : c.deref_mut.result.now ≡ c.in-Full.node.value = c.deref_mut.ensures.value ∙ ap (λ (b : Box Node Global). b.value) c.in-Full.node-is in
    let seen : c.args.tree ≡ left ++ run_of n ∷ right = rw (← c.tree.view_is, c.in-Full.is, ← value, c.take_sides-left.ensures.left, c.take_sides-left.ensures.right, c.take_sides-left.ensures.run) refl in
    let own : c.deref-in-Full.result.now.len ≡ n.len = ap (λ (m : Node). m.len) c.deref-in-Full.ensures in
    c.join-in-Full-2.ensures
    ∙ ap (λ b. b ++ (c.deref_mut-in-Full.result.now.set, c.deref-in-Full.result.now.len - (c.args.at - c.len-front.result)) ∷ right) c.new-in-Full-2.ensures
    ∙ ap (λ (m : Node). (m.set, c.deref-in-Full.result.now.len - (c.args.at - c.len-front.result)) ∷ right) c.deref_mut-in-Full.ensures.value
    ∙ ap (λ l. (c.args.spare.value.set, l - (c.args.at - c.len-front.result)) ∷ right) own
    ∙ behind-within c.args.at c.len-front.result left (run_of n) right c.args.spare.value.set c.len-front.ensures (omega arith) (omega (arith, own)) (rw seen at c.requires)
    ∙ ap (behind c.args.at) (sym seen)
