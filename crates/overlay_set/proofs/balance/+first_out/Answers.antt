use Rattle.std.proofs.Common.{◌≡◌, ◌++◌, ◌∷◌, length, sym, ap, ◌∙◌, arith}
use Rattle.std.proofs.lemmas.Grind.{common_steps}
use Rattle.std.proofs.lemmas.List.{length-map, length-append}
use Rattle.overlay_set.specs.Entries.{entries_in, entries_of, raised}
use Rattle.overlay_set.specs.declared.tree.Node.{Node}
use Rattle.overlay_set.proofs.balance.+first_out.Goals as goal

pub first_out-first-requires : goal.first_out-first-requires
first_out-first-requires t c =
    let n = c.args.node.value in
    let top = c.in-Full.top.value in
    let xs = c.take_sides-left.result.0 in
    let kept : length xs ≡ length n.left = c.take_sides-left.ensures.left ∙ ap (λ (d : Node). length d.left) c.deref_mut.ensures.value in
    let inner : xs ≡ entries_in top = sym c.left.view_is ∙ ap entries_of c.in-Full.is in
    let some = ap length inner in
    let there = length-map (top.left ++ top.entry ∷ top.right) (raised top.shift) in
    let parts = length-append top.left (top.entry ∷ top.right) in
    rw c.in-Full.top-is (first_of (omega (arith, kept, some, there, parts), grind (arith, common_steps, kept, some, there, parts)), tt)
