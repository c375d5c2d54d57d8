use Rattle.std.proofs.Common.{◌≡◌, ◌++◌, ◌∷◌, Box, Global, ap, sym, ◌∙◌, arith}
use Rattle.overlay_set.specs.Entries.{entries_in, entries_of}
use Rattle.overlay_set.specs.declared.tree.Node.{Node}
use Rattle.overlay_set.proofs.Parts.{left_shorter, right_shorter}
use Rattle.overlay_set.proofs.SameLemmas.{put_left, put_right}
use Rattle.overlay_set.proofs.balance.+insert.Goals as goal

pub insert-requires : goal.insert-requires
insert-requires t c =
    let xs = c.take_sides-left.result.0 in
    let e = c.take_sides-left.new.node.entry in
    let ys = c.take_sides-left.result.1 in
    let whole : c.args.tree ≡ xs ++ e ∷ ys = sym c.tree.view_is ∙ ap entries_of c.in-Full.is ∙ ap (λ (b : Box Node Global). entries_in b.value) (sym c.in-Full.top-is) ∙ ap entries_in (sym c.deref_mut.ensures.value) ∙ sym c.take_sides-left.ensures.whole in
    (omega (arith, left_shorter c.args.tree xs e ys whole), tt)

pub insert-requires-else-comes_before : goal.insert-requires-else-comes_before
insert-requires-else-comes_before t c =
    let xs = c.take_sides-left.result.0 in
    let e = c.take_sides-left.new.node.entry in
    let ys = c.take_sides-left.result.1 in
    let whole : c.args.tree ≡ xs ++ e ∷ ys = sym c.tree.view_is ∙ ap entries_of c.in-Full.is ∙ ap (λ (b : Box Node Global). entries_in b.value) (sym c.in-Full.top-is) ∙ ap entries_in (sym c.deref_mut.ensures.value) ∙ sym c.take_sides-left.ensures.whole in
    (omega (arith, right_shorter c.args.tree xs e ys whole), tt)

pub returns-then-comes_before : goal.returns-then-comes_before
returns-then-comes_before t c =
    let xs = c.take_sides-left.result.0 in
    let e = c.take_sides-left.new.node.entry in
    let ys = c.take_sides-left.result.1 in
    let whole : c.args.tree ≡ xs ++ e ∷ ys = sym c.tree.view_is ∙ ap entries_of c.in-Full.is ∙ ap (λ (b : Box Node Global). entries_in b.value) (sym c.in-Full.top-is) ∙ ap entries_in (sym c.deref_mut.ensures.value) ∙ sym c.take_sides-left.ensures.whole in
    put_left c.args.node.value.entry c.args.tree xs e ys c.insert.result c.balanced.result whole c.insert.ensures c.balanced.ensures

pub returns-else-comes_before : goal.returns-else-comes_before
returns-else-comes_before t c =
    let xs = c.take_sides-left.result.0 in
    let e = c.take_sides-left.new.node.entry in
    let ys = c.take_sides-left.result.1 in
    let whole : c.args.tree ≡ xs ++ e ∷ ys = sym c.tree.view_is ∙ ap entries_of c.in-Full.is ∙ ap (λ (b : Box Node Global). entries_in b.value) (sym c.in-Full.top-is) ∙ ap entries_in (sym c.deref_mut.ensures.value) ∙ sym c.take_sides-left.ensures.whole in
    put_right c.args.node.value.entry c.args.tree xs e ys c.insert-else-comes_before.result c.balanced-else-comes_before.result whole c.insert-else-comes_before.ensures c.balanced-else-comes_before.ensures
