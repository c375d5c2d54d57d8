use Rattle.std.proofs.Common.{◌≡◌, Box, Global, List, [], ◌∷◌, ◌++◌, length, refl, ap, sym, ◌∙◌, arith, length-append}
use Rattle.prop_intervals.specs.Runs.{Run, size}
use Rattle.prop_intervals.specs.Tree.{run_of}
use Rattle.prop_intervals.specs.declared.tree.Node.{Node}
use Rattle.prop_intervals.proofs.RunLemmas.{size-append}
use Rattle.prop_intervals.proofs.cut.+take_first.Goals as goal

pub take_first-first-requires : goal.take_first-first-requires
take_first-first-requires t c =
    let n = c.take_sides-left.new.node in
    let left = c.take_sides-left.result.0 in
    let right = c.take_sides-left.result.1 in
    let value : c.deref_mut.result.now ≡ c.in-Full.node.value = c.deref_mut.ensures.value ∙ ap (λ (b : Box Node Global). b.value) c.in-Full.node-is in
    let seen : c.args.tree ≡ left ++ run_of n ∷ right = rw (← c.tree.view_is, c.in-Full.is, ← value, c.take_sides-left.ensures.left, c.take_sides-left.ensures.right, c.take_sides-left.ensures.run) refl in
    (omega (arith, c.decreases, ap length seen, length-append left (run_of n ∷ right)), tt)

pub join-requires : goal.join-requires
join-requires t c =
    let n = c.take_sides-left.new.node in
    let left = c.take_sides-left.result.0 in
    let right = c.take_sides-left.result.1 in
    let value : c.deref_mut.result.now ≡ c.in-Full.node.value = c.deref_mut.ensures.value ∙ ap (λ (b : Box Node Global). b.value) c.in-Full.node-is in
    let seen : c.args.tree ≡ left ++ run_of n ∷ right = rw (← c.tree.view_is, c.in-Full.is, ← value, c.take_sides-left.ensures.left, c.take_sides-left.ensures.right, c.take_sides-left.ensures.run) refl in
    let read : c.deref.result.now ≡ c.in-Full.node.value = c.deref.ensures ∙ ap (λ (b : Box Node Global). b.value) c.in-Full.node-is in
    let total : c.deref.result.now.total ≡ size c.args.tree = rw (← c.tree.view_is, c.in-Full.is, read) (rw c.in-Full.is at c.tree.invariant) in
    let part : left ≡ run_of c.in-Some.first.value ∷ c.take_first-first.result.1 = rw c.in-Some.is at c.take_first-first.ensures in
    omega (arith, total, ap size seen, size-append left (run_of n ∷ right), ap size part)

pub returns-in-None : goal.returns-in-None
returns-in-None t c =
    let n = c.take_sides-left.new.node in
    let left = c.take_sides-left.result.0 in
    let right = c.take_sides-left.result.1 in
    let value : c.deref_mut.result.now ≡ c.in-Full.node.value = c.deref_mut.ensures.value ∙ ap (λ (b : Box Node Global). b.value) c.in-Full.node-is in
    let seen : c.args.tree ≡ left ++ run_of n ∷ right = rw (← c.tree.view_is, c.in-Full.is, ← value, c.take_sides-left.ensures.left, c.take_sides-left.ensures.right, c.take_sides-left.ensures.run) refl in
    let none : left ≡ [] = rw c.in-None.is at c.take_first-first.ensures in
    seen ∙ ap (λ (runs : List Run). runs ++ run_of n ∷ right) none

pub returns-in-Some : goal.returns-in-Some
returns-in-Some t c =
    let n = c.take_sides-left.new.node in
    let left = c.take_sides-left.result.0 in
    let right = c.take_sides-left.result.1 in
    let value : c.deref_mut.result.now ≡ c.in-Full.node.value = c.deref_mut.ensures.value ∙ ap (λ (b : Box Node Global). b.value) c.in-Full.node-is in
    let seen : c.args.tree ≡ left ++ run_of n ∷ right = rw (← c.tree.view_is, c.in-Full.is, ← value, c.take_sides-left.ensures.left, c.take_sides-left.ensures.right, c.take_sides-left.ensures.run) refl in
    let part : left ≡ run_of c.in-Some.first.value ∷ c.take_first-first.result.1 = rw c.in-Some.is at c.take_first-first.ensures in
    seen ∙ ap (λ (runs : List Run). runs ++ run_of n ∷ right) part ∙ ap (λ (runs : List Run). run_of c.in-Some.first.value ∷ runs) (sym c.join.ensures)
