use Rattle.std.proofs.Common.{◌≡◌, ◌++◌, ◌∷◌, Box, Global, ap, sym, ◌∙◌, arith}
use Rattle.overlay_set.specs.Entries.{entries_in, entries_of, is_same}
use Rattle.overlay_set.specs.declared.tree.Node.{Node}
use Rattle.overlay_set.proofs.Parts.{gone_between, kept_between, left_shorter, right_shorter}
use Rattle.overlay_set.proofs.moves.+all_but.Goals as goal

pub returns-then-not-may_hold : goal.returns-then-not-may_hold
returns-then-not-may_hold t c = sym (c.may_hold.ensures c.if-not-may_hold.true)

pub all_but-left-requires : goal.all_but-left-requires
all_but-left-requires t c =
    let xs = c.take_sides-left.result.0 in
    let e = c.take_sides-left.new.node.entry in
    let ys = c.take_sides-left.result.1 in
    let whole : c.args.tree ≡ xs ++ e ∷ ys = sym c.tree.view_is ∙ ap entries_of c.in-Full.is ∙ ap (λ (b : Box Node Global). entries_in b.value) (sym c.in-Full.node-is) ∙ ap entries_in (sym c.deref_mut.ensures.value) ∙ sym c.take_sides-left.ensures.whole in
    (omega (arith, left_shorter c.args.tree xs e ys whole), tt)

pub all_but-right-requires : goal.all_but-right-requires
all_but-right-requires t c =
    let xs = c.take_sides-left.result.0 in
    let e = c.take_sides-left.new.node.entry in
    let ys = c.take_sides-left.result.1 in
    let whole : c.args.tree ≡ xs ++ e ∷ ys = sym c.tree.view_is ∙ ap entries_of c.in-Full.is ∙ ap (λ (b : Box Node Global). entries_in b.value) (sym c.in-Full.node-is) ∙ ap entries_in (sym c.deref_mut.ensures.value) ∙ sym c.take_sides-left.ensures.whole in
    (omega (arith, right_shorter c.args.tree xs e ys whole), tt)

pub returns-then-is_same : goal.returns-then-is_same
returns-then-is_same t c =
    let xs = c.take_sides-left.result.0 in
    let e = c.take_sides-left.new.node.entry in
    let ys = c.take_sides-left.result.1 in
    let whole : c.args.tree ≡ xs ++ e ∷ ys = sym c.tree.view_is ∙ ap entries_of c.in-Full.is ∙ ap (λ (b : Box Node Global). entries_in b.value) (sym c.in-Full.node-is) ∙ ap entries_in (sym c.deref_mut.ensures.value) ∙ sym c.take_sides-left.ensures.whole in
    c.merge.ensures ∙ gone_between c.args.gone c.args.tree xs e ys _ _ whole c.all_but-left.ensures c.all_but-right.ensures (ap (λ (n : Node). is_same n.entry c.args.gone) (sym c.deref.ensures) ∙ sym c.is_same.ensures ∙ c.if-is_same.true)

pub returns-else-is_same : goal.returns-else-is_same
returns-else-is_same t c =
    let xs = c.take_sides-left.result.0 in
    let e = c.take_sides-left.new.node.entry in
    let ys = c.take_sides-left.result.1 in
    let whole : c.args.tree ≡ xs ++ e ∷ ys = sym c.tree.view_is ∙ ap entries_of c.in-Full.is ∙ ap (λ (b : Box Node Global). entries_in b.value) (sym c.in-Full.node-is) ∙ ap entries_in (sym c.deref_mut.ensures.value) ∙ sym c.take_sides-left.ensures.whole in
    c.join.ensures ∙ kept_between c.args.gone c.args.tree xs e ys _ _ whole c.all_but-left.ensures c.all_but-right.ensures (ap (λ (n : Node). is_same n.entry c.args.gone) (sym c.deref.ensures) ∙ sym c.is_same.ensures ∙ c.if-is_same.false)
