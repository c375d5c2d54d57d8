use Rattle.std.proofs.Common.{◌≡◌, ◌++◌, ◌∷◌, Box, Global, ap, sym, ◌∙◌, arith}
use Rattle.overlay_set.specs.Entries.{entries_in, entries_of}
use Rattle.overlay_set.specs.declared.tree.Node.{Node}
use Rattle.overlay_set.proofs.Parts.{right_shorter, joined_right}
use Rattle.overlay_set.proofs.balance.+join_right.Goals as goal

pub join_right-requires : goal.join_right-requires
join_right-requires t c =
    let xs = c.take_sides-a.result.0 in
    let e = c.take_sides-a.new.node.entry in
    let ys = c.take_sides-a.result.1 in
    let whole : c.args.left ≡ xs ++ e ∷ ys = sym c.left.view_is ∙ ap entries_of c.in-Full.is ∙ ap (λ (b : Box Node Global). entries_in b.value) (sym c.in-Full.top-is) ∙ ap entries_in (sym c.deref_mut.ensures.value) ∙ sym c.take_sides-a.ensures.whole in
    (omega (arith, right_shorter c.args.left xs e ys whole), tt)

pub returns-in-Full : goal.returns-in-Full
returns-in-Full t c =
    let xs = c.take_sides-a.result.0 in
    let e = c.take_sides-a.new.node.entry in
    let ys = c.take_sides-a.result.1 in
    let whole : c.args.left ≡ xs ++ e ∷ ys = sym c.left.view_is ∙ ap entries_of c.in-Full.is ∙ ap (λ (b : Box Node Global). entries_in b.value) (sym c.in-Full.top-is) ∙ ap entries_in (sym c.deref_mut.ensures.value) ∙ sym c.take_sides-a.ensures.whole in
    c.balanced.ensures ∙ joined_right c.args.left xs e ys c.args.node.value.entry c.args.right c.join_right.result whole c.join_right.ensures
