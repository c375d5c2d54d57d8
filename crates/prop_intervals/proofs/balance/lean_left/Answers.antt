use Rattle.std.proofs.Common.{◌≡◌, Box, Global, ◌∷◌, ◌++◌, refl, ap, ◌∙◌, arith}
use Rattle.prop_intervals.specs.Runs.{size}
use Rattle.prop_intervals.specs.Tree.{run_of}
use Rattle.prop_intervals.specs.declared.tree.Node.{Node}
use Rattle.prop_intervals.proofs.RunLemmas.{size-append, joined_right}
use Rattle.prop_intervals.proofs.balance.lean_left.Goals as goal

pub middle_up-requires : goal.middle_up-requires
middle_up-requires c =
    let n = c.take_sides-a.new.node in
    let xs = c.take_sides-a.result.0 in
    let ys = c.take_sides-a.result.1 in
    let value : c.deref_mut.result.now ≡ c.in-Full.top.value = c.deref_mut.ensures.value ∙ ap (λ (b : Box Node Global). b.value) c.in-Full.top-is in
    let seen : c.args.left ≡ xs ++ run_of n ∷ ys = rw (← c.left.view_is, c.in-Full.is, ← value, c.take_sides-a.ensures.left, c.take_sides-a.ensures.right, c.take_sides-a.ensures.run) refl in
    omega (arith, ap size seen, size-append xs (run_of n ∷ ys), c.requires)

pub returns-then-height : goal.returns-then-height
returns-then-height c =
    let n = c.take_sides-a.new.node in
    let xs = c.take_sides-a.result.0 in
    let ys = c.take_sides-a.result.1 in
    let value : c.deref_mut.result.now ≡ c.in-Full.top.value = c.deref_mut.ensures.value ∙ ap (λ (b : Box Node Global). b.value) c.in-Full.top-is in
    let seen : c.args.left ≡ xs ++ run_of n ∷ ys = rw (← c.left.view_is, c.in-Full.is, ← value, c.take_sides-a.ensures.left, c.take_sides-a.ensures.right, c.take_sides-a.ensures.run) refl in
    c.middle_up.ensures ∙ joined_right c.args.left xs (run_of n) ys (run_of c.args.node.value) c.args.right _ seen refl

pub fork-requires-else-height : goal.fork-requires-else-height
fork-requires-else-height c =
    let n = c.take_sides-a.new.node in
    let xs = c.take_sides-a.result.0 in
    let ys = c.take_sides-a.result.1 in
    let value : c.deref_mut.result.now ≡ c.in-Full.top.value = c.deref_mut.ensures.value ∙ ap (λ (b : Box Node Global). b.value) c.in-Full.top-is in
    let seen : c.args.left ≡ xs ++ run_of n ∷ ys = rw (← c.left.view_is, c.in-Full.is, ← value, c.take_sides-a.ensures.left, c.take_sides-a.ensures.right, c.take_sides-a.ensures.run) refl in
    omega (arith, ap size seen, size-append xs (run_of n ∷ ys), c.requires)

pub fork-requires-else-height-2 : goal.fork-requires-else-height-2
fork-requires-else-height-2 c =
    let n = c.take_sides-a.new.node in
    let xs = c.take_sides-a.result.0 in
    let ys = c.take_sides-a.result.1 in
    let value : c.deref_mut.result.now ≡ c.in-Full.top.value = c.deref_mut.ensures.value ∙ ap (λ (b : Box Node Global). b.value) c.in-Full.top-is in
    let seen : c.args.left ≡ xs ++ run_of n ∷ ys = rw (← c.left.view_is, c.in-Full.is, ← value, c.take_sides-a.ensures.left, c.take_sides-a.ensures.right, c.take_sides-a.ensures.run) refl in
    omega (arith, ap size seen, size-append xs (run_of n ∷ ys), c.requires, ap size c.fork-else-height.ensures, size-append ys ((run_of c.args.node.value) ∷ c.args.right))

pub returns-else-height : goal.returns-else-height
returns-else-height c =
    let n = c.take_sides-a.new.node in
    let xs = c.take_sides-a.result.0 in
    let ys = c.take_sides-a.result.1 in
    let value : c.deref_mut.result.now ≡ c.in-Full.top.value = c.deref_mut.ensures.value ∙ ap (λ (b : Box Node Global). b.value) c.in-Full.top-is in
    let seen : c.args.left ≡ xs ++ run_of n ∷ ys = rw (← c.left.view_is, c.in-Full.is, ← value, c.take_sides-a.ensures.left, c.take_sides-a.ensures.right, c.take_sides-a.ensures.run) refl in
    c.fork-else-height-2.ensures ∙ joined_right c.args.left xs (run_of n) ys (run_of c.args.node.value) c.args.right c.fork-else-height.result seen c.fork-else-height.ensures
