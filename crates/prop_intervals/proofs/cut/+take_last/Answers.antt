use Rattle.std.proofs.Common.{◌≡◌, Box, Global, List, [], ◌∷◌, ◌++◌, length, append_assoc, refl, ap, sym, ◌∙◌, arith, length-append}
use Rattle.prop_intervals.specs.Runs.{Run, size}
use Rattle.prop_intervals.specs.Tree.{run_of}
use Rattle.prop_intervals.specs.declared.tree.Node.{Node}
use Rattle.prop_intervals.proofs.RunLemmas.{size-append}
use Rattle.prop_intervals.proofs.cut.+take_last.Goals as goal

pub take_last-last-requires : goal.take_last-last-requires
take_last-last-requires t c =
    let n = c.take_sides-left.new.node in
    let left = c.take_sides-left.result.0 in
    let right = c.take_sides-left.result.1 in
    let value : c.deref_mut.result.now ≡ c.in-Full.node.value = c.deref_mut.ensures.value ∙ ap (λ (b : Box Node Global). b.value) c.in-Full.node-is in
    let seen : c.args.tree ≡ left ++ run_of n ∷ right = rw (← c.tree.view_is, c.in-Full.is, ← value, c.take_sides-left.ensures.left, c.take_sides-left.ensures.right, c.take_sides-left.ensures.run) refl in
    (omega (arith, c.decreases, ap length seen, length-append left (run_of n ∷ right)), tt)

pub join-requires : goal.join-requires
join-requires t c =
    let n = c.take_sides-left.new.node in
    let left = c.take_sides-left.result.0 in
    let right = c.take_sides-left.result.1 in
    let value : c.deref_mut.result.now ≡ c.in-Full.node.value = c.deref_mut.ensures.value ∙ ap (λ (b : Box Node Global). b.value) c.in-Full.node-is in
    let seen : c.args.tree ≡ left ++ run_of n ∷ right = rw (← c.tree.view_is, c.in-Full.is, ← value, c.take_sides-left.ensures.left, c.take_sides-left.ensures.right, c.take_sides-left.ensures.run) refl in
    let read : c.deref.result.now ≡ c.in-Full.node.value = c.deref.ensures ∙ ap (λ (b : Box Node Global). b.value) c.in-Full.node-is in
    let total : c.deref.result.now.total ≡ size c.args.tree = rw (← c.tree.view_is, c.in-Full.is, read) (rw c.in-Full.is at c.tree.invariant) in
    let part : right ≡ c.take_last-last.result.1 ++ run_of c.in-Some.last.value ∷ [] = rw c.in-Some.is at c.take_last-last.ensures in
    omega (arith, total, ap size seen, size-append left (run_of n ∷ right), ap size part, size-append c.take_last-last.result.1 (run_of c.in-Some.last.value ∷ []))

pub returns-in-None : goal.returns-in-None
returns-in-None t c =
    let n = c.take_sides-left.new.node in
    let left = c.take_sides-left.result.0 in
    let right = c.take_sides-left.result.1 in
    let value : c.deref_mut.result.now ≡ c.in-Full.node.value = c.deref_mut.ensures.value ∙ ap (λ (b : Box Node Global). b.value) c.in-Full.node-is in
    let seen : c.args.tree ≡ left ++ run_of n ∷ right = rw (← c.tree.view_is, c.in-Full.is, ← value, c.take_sides-left.ensures.left, c.take_sides-left.ensures.right, c.take_sides-left.ensures.run) refl in
    let none : right ≡ [] = rw c.in-None.is at c.take_last-last.ensures in
    seen ∙ ap (λ (runs : List Run). left ++ run_of n ∷ runs) none

pub returns-in-Some : goal.returns-in-Some
returns-in-Some t c =
    let n = c.take_sides-left.new.node in
    let left = c.take_sides-left.result.0 in
    let right = c.take_sides-left.result.1 in
    let value : c.deref_mut.result.now ≡ c.in-Full.node.value = c.deref_mut.ensures.value ∙ ap (λ (b : Box Node Global). b.value) c.in-Full.node-is in
    let seen : c.args.tree ≡ left ++ run_of n ∷ right = rw (← c.tree.view_is, c.in-Full.is, ← value, c.take_sides-left.ensures.left, c.take_sides-left.ensures.right, c.take_sides-left.ensures.run) refl in
    let part : right ≡ c.take_last-last.result.1 ++ run_of c.in-Some.last.value ∷ [] = rw c.in-Some.is at c.take_last-last.ensures in
    seen ∙ ap (λ (runs : List Run). left ++ run_of n ∷ runs) part ∙ sym (append_assoc left (run_of n ∷ c.take_last-last.result.1) (run_of c.in-Some.last.value ∷ [])) ∙ ap (λ (runs : List Run). runs ++ run_of c.in-Some.last.value ∷ []) (sym c.join.ensures)
