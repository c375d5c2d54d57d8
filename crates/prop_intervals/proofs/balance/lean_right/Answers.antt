use Rattle.std.proofs.Common.{◌≡◌, Box, Global, ◌∷◌, ◌++◌, append_assoc, refl, ap, sym, ◌∙◌, arith}
use Rattle.prop_intervals.specs.Runs.{size}
use Rattle.prop_intervals.specs.Tree.{run_of}
use Rattle.prop_intervals.specs.declared.tree.Node.{Node}
use Rattle.prop_intervals.proofs.RunLemmas.{size-append, joined_left}
use Rattle.prop_intervals.proofs.balance.lean_right.Goals as goal

pub middle_up-requires : goal.middle_up-requires
middle_up-requires c =
    let n = c.take_sides-b.new.node in
    let xs = c.take_sides-b.result.0 in
    let ys = c.take_sides-b.result.1 in
    let value : c.deref_mut.result.now ≡ c.in-Full.top.value = c.deref_mut.ensures.value ∙ ap (λ (b : Box Node Global). b.value) c.in-Full.top-is in
    let seen : c.args.right ≡ xs ++ run_of n ∷ ys = rw (← c.right.view_is, c.in-Full.is, ← value, c.take_sides-b.ensures.left, c.take_sides-b.ensures.right, c.take_sides-b.ensures.run) refl in
    omega (arith, ap size seen, size-append xs (run_of n ∷ ys), c.requires)

pub returns-then-height : goal.returns-then-height
returns-then-height c =
    let n = c.take_sides-b.new.node in
    let xs = c.take_sides-b.result.0 in
    let ys = c.take_sides-b.result.1 in
    let value : c.deref_mut.result.now ≡ c.in-Full.top.value = c.deref_mut.ensures.value ∙ ap (λ (b : Box Node Global). b.value) c.in-Full.top-is in
    let seen : c.args.right ≡ xs ++ run_of n ∷ ys = rw (← c.right.view_is, c.in-Full.is, ← value, c.take_sides-b.ensures.left, c.take_sides-b.ensures.right, c.take_sides-b.ensures.run) refl in
    c.middle_up.ensures ∙ sym (append_assoc c.args.left ((run_of c.args.node.value) ∷ xs) (run_of n ∷ ys)) ∙ joined_left c.args.left (run_of c.args.node.value) c.args.right xs (run_of n) ys _ seen refl

pub fork-requires-else-height : goal.fork-requires-else-height
fork-requires-else-height c =
    let n = c.take_sides-b.new.node in
    let xs = c.take_sides-b.result.0 in
    let ys = c.take_sides-b.result.1 in
    let value : c.deref_mut.result.now ≡ c.in-Full.top.value = c.deref_mut.ensures.value ∙ ap (λ (b : Box Node Global). b.value) c.in-Full.top-is in
    let seen : c.args.right ≡ xs ++ run_of n ∷ ys = rw (← c.right.view_is, c.in-Full.is, ← value, c.take_sides-b.ensures.left, c.take_sides-b.ensures.right, c.take_sides-b.ensures.run) refl in
    omega (arith, ap size seen, size-append xs (run_of n ∷ ys), c.requires)

pub fork-requires-else-height-2 : goal.fork-requires-else-height-2
fork-requires-else-height-2 c =
    let n = c.take_sides-b.new.node in
    let xs = c.take_sides-b.result.0 in
    let ys = c.take_sides-b.result.1 in
    let value : c.deref_mut.result.now ≡ c.in-Full.top.value = c.deref_mut.ensures.value ∙ ap (λ (b : Box Node Global). b.value) c.in-Full.top-is in
    let seen : c.args.right ≡ xs ++ run_of n ∷ ys = rw (← c.right.view_is, c.in-Full.is, ← value, c.take_sides-b.ensures.left, c.take_sides-b.ensures.right, c.take_sides-b.ensures.run) refl in
    omega (arith, ap size seen, size-append xs (run_of n ∷ ys), c.requires, ap size c.fork-else-height.ensures, size-append c.args.left ((run_of c.args.node.value) ∷ xs))

pub returns-else-height : goal.returns-else-height
returns-else-height c =
    let n = c.take_sides-b.new.node in
    let xs = c.take_sides-b.result.0 in
    let ys = c.take_sides-b.result.1 in
    let value : c.deref_mut.result.now ≡ c.in-Full.top.value = c.deref_mut.ensures.value ∙ ap (λ (b : Box Node Global). b.value) c.in-Full.top-is in
    let seen : c.args.right ≡ xs ++ run_of n ∷ ys = rw (← c.right.view_is, c.in-Full.is, ← value, c.take_sides-b.ensures.left, c.take_sides-b.ensures.right, c.take_sides-b.ensures.run) refl in
    c.fork-else-height-2.ensures ∙ joined_left c.args.left (run_of c.args.node.value) c.args.right xs (run_of n) ys c.fork-else-height.result seen c.fork-else-height.ensures
