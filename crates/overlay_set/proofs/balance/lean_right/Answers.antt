use Rattle.std.proofs.Common.{◌≡◌, ◌++◌, ◌∷◌, append_assoc, Box, Global, refl, ap, sym, ◌∙◌}
use Rattle.overlay_set.specs.Entries.{entries_in, entries_of}
use Rattle.overlay_set.specs.declared.tree.Node.{Node}
use Rattle.overlay_set.proofs.Parts.{joined_left}
use Rattle.overlay_set.proofs.balance.lean_right.Goals as goal

pub returns-then-height : goal.returns-then-height
returns-then-height c =
    let xs = c.take_sides-b.result.0 in
    let e = c.take_sides-b.new.node.entry in
    let ys = c.take_sides-b.result.1 in
    let whole : c.args.right ≡ xs ++ e ∷ ys = sym c.right.view_is ∙ ap entries_of c.in-Full.is ∙ ap (λ (b : Box Node Global). entries_in b.value) (sym c.in-Full.top-is) ∙ ap entries_in (sym c.deref_mut.ensures.value) ∙ sym c.take_sides-b.ensures.whole in
    c.middle_up.ensures ∙ sym (append_assoc c.args.left (c.args.node.value.entry ∷ xs) (e ∷ ys)) ∙ joined_left c.args.left c.args.node.value.entry c.args.right xs e ys _ whole refl

pub returns-else-height : goal.returns-else-height
returns-else-height c =
    let xs = c.take_sides-b.result.0 in
    let e = c.take_sides-b.new.node.entry in
    let ys = c.take_sides-b.result.1 in
    let whole : c.args.right ≡ xs ++ e ∷ ys = sym c.right.view_is ∙ ap entries_of c.in-Full.is ∙ ap (λ (b : Box Node Global). entries_in b.value) (sym c.in-Full.top-is) ∙ ap entries_in (sym c.deref_mut.ensures.value) ∙ sym c.take_sides-b.ensures.whole in
    c.fork-else-height-2.ensures ∙ joined_left c.args.left c.args.node.value.entry c.args.right xs e ys c.fork-else-height.result whole c.fork-else-height.ensures
