use Rattle.std.proofs.Common.{◌≡◌, ◌++◌, ◌∷◌, Box, Global, ap, sym, ◌∙◌, arith}
use Rattle.overlay_set.specs.Entries.{entries_in, entries_of}
use Rattle.overlay_set.specs.declared.tree.Node.{Node}
use Rattle.overlay_set.proofs.Parts.{left_shorter, joined_left}
use Rattle.overlay_set.proofs.balance.+join_left.Goals as goal

pub join_left-requires : goal.join_left-requires
join_left-requires t c =
    let xs = c.take_sides-b.result.0 in
    let e = c.take_sides-b.new.node.entry in
    let ys = c.take_sides-b.result.1 in
    let whole : c.args.right ≡ xs ++ e ∷ ys = sym c.right.view_is ∙ ap entries_of c.in-Full.is ∙ ap (λ (b : Box Node Global). entries_in b.value) (sym c.in-Full.top-is) ∙ ap entries_in (sym c.deref_mut.ensures.value) ∙ sym c.take_sides-b.ensures.whole in
    (omega (arith, left_shorter c.args.right xs e ys whole), tt)

pub returns-in-Full : goal.returns-in-Full
returns-in-Full t c =
    let xs = c.take_sides-b.result.0 in
    let e = c.take_sides-b.new.node.entry in
    let ys = c.take_sides-b.result.1 in
    let whole : c.args.right ≡ xs ++ e ∷ ys = sym c.right.view_is ∙ ap entries_of c.in-Full.is ∙ ap (λ (b : Box Node Global). entries_in b.value) (sym c.in-Full.top-is) ∙ ap entries_in (sym c.deref_mut.ensures.value) ∙ sym c.take_sides-b.ensures.whole in
    c.balanced.ensures ∙ joined_left c.args.left c.args.node.value.entry c.args.right xs e ys c.join_left.result whole c.join_left.ensures
