use Rattle.std.proofs.Common.{◌≡◌, Box, Global, ◌∷◌, ◌++◌, length, refl, ap, ◌∙◌, arith, length-append}
use Rattle.prop_intervals.specs.Runs.{size}
use Rattle.prop_intervals.specs.Tree.{run_of}
use Rattle.prop_intervals.specs.declared.tree.Node.{Node}
use Rattle.prop_intervals.proofs.RunLemmas.{size-append, joined_left}
use Rattle.prop_intervals.proofs.balance.+join_left.Goals as goal

pub join_left-requires : goal.join_left-requires
join_left-requires t c =
    let n = c.take_sides-b.new.node in
    let xs = c.take_sides-b.result.0 in
    let ys = c.take_sides-b.result.1 in
    let value : c.deref_mut.result.now ≡ c.in-Full.top.value = c.deref_mut.ensures.value ∙ ap (λ (b : Box Node Global). b.value) c.in-Full.top-is in
    let seen : c.args.right ≡ xs ++ run_of n ∷ ys = rw (← c.right.view_is, c.in-Full.is, ← value, c.take_sides-b.ensures.left, c.take_sides-b.ensures.right, c.take_sides-b.ensures.run) refl in
    (omega (arith, c.decreases, ap length seen, length-append xs (run_of n ∷ ys)), omega (arith, ap size seen, size-append xs (run_of n ∷ ys), c.requires))

pub balanced-requires : goal.balanced-requires
balanced-requires t c =
    let n = c.take_sides-b.new.node in
    let xs = c.take_sides-b.result.0 in
    let ys = c.take_sides-b.result.1 in
    let value : c.deref_mut.result.now ≡ c.in-Full.top.value = c.deref_mut.ensures.value ∙ ap (λ (b : Box Node Global). b.value) c.in-Full.top-is in
    let seen : c.args.right ≡ xs ++ run_of n ∷ ys = rw (← c.right.view_is, c.in-Full.is, ← value, c.take_sides-b.ensures.left, c.take_sides-b.ensures.right, c.take_sides-b.ensures.run) refl in
    omega (arith, ap size seen, size-append xs (run_of n ∷ ys), c.requires, ap size c.join_left.ensures, size-append c.args.left ((run_of c.args.node.value) ∷ xs))

pub returns-in-Full : goal.returns-in-Full
returns-in-Full t c =
    let n = c.take_sides-b.new.node in
    let xs = c.take_sides-b.result.0 in
    let ys = c.take_sides-b.result.1 in
    let value : c.deref_mut.result.now ≡ c.in-Full.top.value = c.deref_mut.ensures.value ∙ ap (λ (b : Box Node Global). b.value) c.in-Full.top-is in
    let seen : c.args.right ≡ xs ++ run_of n ∷ ys = rw (← c.right.view_is, c.in-Full.is, ← value, c.take_sides-b.ensures.left, c.take_sides-b.ensures.right, c.take_sides-b.ensures.run) refl in
    c.balanced.ensures ∙ joined_left c.args.left (run_of c.args.node.value) c.args.right xs (run_of n) ys c.join_left.result seen c.join_left.ensures
