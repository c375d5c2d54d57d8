use Rattle.std.proofs.Common.{◌≡◌, ◌++◌, ◌∷◌, Box, Global, refl, ap, sym, ◌∙◌}
use Rattle.overlay_set.specs.Entries.{entries_in, entries_of}
use Rattle.overlay_set.specs.declared.tree.Node.{Node}
use Rattle.overlay_set.proofs.Parts.{joined_right}
use Rattle.overlay_set.proofs.balance.lean_left.Goals as goal

pub returns-then-height : goal.returns-then-height
returns-then-height c =
    let xs = c.take_sides-a.result.0 in
    let e = c.take_sides-a.new.node.entry in
    let ys = c.take_sides-a.result.1 in
    let whole : c.args.left ≡ xs ++ e ∷ ys = sym c.left.view_is ∙ ap entries_of c.in-Full.is ∙ ap (λ (b : Box Node Global). entries_in b.value) (sym c.in-Full.top-is) ∙ ap entries_in (sym c.deref_mut.ensures.value) ∙ sym c.take_sides-a.ensures.whole in
    c.middle_up.ensures ∙ joined_right c.args.left xs e ys c.args.node.value.entry c.args.right _ whole refl

pub returns-else-height : goal.returns-else-height
returns-else-height c =
    let xs = c.take_sides-a.result.0 in
    let e = c.take_sides-a.new.node.entry in
    let ys = c.take_sides-a.result.1 in
    let whole : c.args.left ≡ xs ++ e ∷ ys = sym c.left.view_is ∙ ap entries_of c.in-Full.is ∙ ap (λ (b : Box Node Global). entries_in b.value) (sym c.in-Full.top-is) ∙ ap entries_in (sym c.deref_mut.ensures.value) ∙ sym c.take_sides-a.ensures.whole in
    c.fork-else-height-2.ensures ∙ joined_right c.args.left xs e ys c.args.node.value.entry c.args.right c.fork-else-height.result whole c.fork-else-height.ensures
