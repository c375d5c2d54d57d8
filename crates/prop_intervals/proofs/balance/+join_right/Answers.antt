use Rattle.std.proofs.Common.{◌≡◌, Box, Global, ◌∷◌, ◌++◌, length, refl, ap, ◌∙◌, arith, length-append}
use Rattle.prop_intervals.specs.Runs.{size}
use Rattle.prop_intervals.specs.Tree.{run_of}
use Rattle.prop_intervals.specs.declared.tree.Node.{Node}
use Rattle.prop_intervals.proofs.RunLemmas.{size-append, joined_right}
use Rattle.prop_intervals.proofs.balance.+join_right.Goals as goal

pub join_right-requires : goal.join_right-requires
join_right-requires t c =
    let n = c.take_sides-a.new.node in
    let xs = c.take_sides-a.result.0 in
    let ys = c.take_sides-a.result.1 in
    let value : c.deref_mut.result.now ≡ c.in-Full.top.value = c.deref_mut.ensures.value ∙ ap (λ (b : Box Node Global). b.value) c.in-Full.top-is in
    let seen : c.args.left ≡ xs ++ run_of n ∷ ys = rw (← c.left.view_is, c.in-Full.is, ← value, c.take_sides-a.ensures.left, c.take_sides-a.ensures.right, c.take_sides-a.ensures.run) refl in
    (omega (arith, c.decreases, ap length seen, length-append xs (run_of n ∷ ys)), omega (arith, ap size seen, size-append xs (run_of n ∷ ys), c.requires))

pub balanced-requires : goal.balanced-requires
balanced-requires t c =
    let n = c.take_sides-a.new.node in
    let xs = c.take_sides-a.result.0 in
    let ys = c.take_sides-a.result.1 in
    let value : c.deref_mut.result.now ≡ c.in-Full.top.value = c.deref_mut.ensures.value ∙ ap (λ (b : Box Node Global). b.value) c.in-Full.top-is in
    let seen : c.args.left ≡ xs ++ run_of n ∷ ys = rw (← c.left.view_is, c.in-Full.is, ← value, c.take_sides-a.ensures.left, c.take_sides-a.ensures.right, c.take_sides-a.ensures.run) refl in
    omega (arith, ap size seen, size-append xs (run_of n ∷ ys), c.requires, ap size c.join_right.ensures, size-append ys ((run_of c.args.node.value) ∷ c.args.right))

pub returns-in-Full : goal.returns-in-Full
returns-in-Full t c =
    let n = c.take_sides-a.new.node in
    let xs = c.take_sides-a.result.0 in
    let ys = c.take_sides-a.result.1 in
    let value : c.deref_mut.result.now ≡ c.in-Full.top.value = c.deref_mut.ensures.value ∙ ap (λ (b : Box Node Global). b.value) c.in-Full.top-is in
    let seen : c.args.left ≡ xs ++ run_of n ∷ ys = rw (← c.left.view_is, c.in-Full.is, ← value, c.take_sides-a.ensures.left, c.take_sides-a.ensures.right, c.take_sides-a.ensures.run) refl in
    c.balanced.ensures ∙ joined_right c.args.left xs (run_of n) ys (run_of c.args.node.value) c.args.right c.join_right.result seen c.join_right.ensures
