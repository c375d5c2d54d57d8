use Rattle.std.proofs.Common.{◌≡◌, All, ◌∷◌, ◌++◌, length, map, Box, Global, ap, sym, subst, ◌∙◌, arith}
use Rattle.overlay_set.specs.Numbered.{span_of}
use Rattle.overlay_set.specs.Slots.{bare_of}
use Rattle.overlay_set.specs.Entries.{IsMade, entry_of, entries_in, entries_of}
use Rattle.overlay_set.specs.Moves.{CanMoveEntry, moved_entry}
use Rattle.overlay_set.specs.declared.tree.Node.{Node}
use Rattle.overlay_set.proofs.Parts.{all_left, all_own, all_right, left_shorter, right_shorter}
use Rattle.overlay_set.proofs.ChangeLemmas.{untouched, moved_three}
use Rattle.overlay_set.proofs.moves.+moved.Goals as goal

pub returns-then-not-may_be_touched : goal.returns-then-not-may_be_touched
returns-then-not-may_be_touched t c = untouched c.args.buffer c.args.change (map bare_of c.args.slots.now) c.args.tree (c.may_be_touched.ensures c.if-not-may_be_touched.true)

pub moved-left-requires : goal.moved-left-requires
moved-left-requires t c =
    let xs = c.take_sides-left.result.0 in
    let e = c.take_sides-left.new.node.entry in
    let ys = c.take_sides-left.result.1 in
    let whole : c.args.tree ≡ xs ++ e ∷ ys = sym c.tree.view_is ∙ ap entries_of c.in-Full.is ∙ ap (λ (b : Box Node Global). entries_in b.value) (sym c.in-Full.node-is) ∙ ap entries_in (sym c.deref_mut.ensures.value) ∙ sym c.take_sides-left.ensures.whole in (
      omega (arith, left_shorter c.args.tree xs e ys whole),
      (
        all_left (IsMade (length c.args.slots.now)) xs e ys (subst (All (IsMade (length c.args.slots.now))) whole c.requires.made),
        all_left (CanMoveEntry c.args.buffer c.args.change) xs e ys (subst (All (CanMoveEntry c.args.buffer c.args.change)) whole c.requires.can),
      ),
    )

pub moved_stretch-stretch-requires-clause-made : goal.moved_stretch-stretch-requires-clause-made
moved_stretch-stretch-requires-clause-made t c =
    let xs = c.take_sides-left.result.0 in
    let e = c.take_sides-left.new.node.entry in
    let ys = c.take_sides-left.result.1 in
    let whole : c.args.tree ≡ xs ++ e ∷ ys = sym c.tree.view_is ∙ ap entries_of c.in-Full.is ∙ ap (λ (b : Box Node Global). entries_in b.value) (sym c.in-Full.node-is) ∙ ap entries_in (sym c.deref_mut.ensures.value) ∙ sym c.take_sides-left.ensures.whole in
    rw c.deref.ensures (all_own (IsMade (length c.args.slots.now)) xs e ys (subst (All (IsMade (length c.args.slots.now))) whole c.requires.made))

pub moved_stretch-stretch-requires-clause-can : goal.moved_stretch-stretch-requires-clause-can
moved_stretch-stretch-requires-clause-can t c =
    let xs = c.take_sides-left.result.0 in
    let e = c.take_sides-left.new.node.entry in
    let ys = c.take_sides-left.result.1 in
    let whole : c.args.tree ≡ xs ++ e ∷ ys = sym c.tree.view_is ∙ ap entries_of c.in-Full.is ∙ ap (λ (b : Box Node Global). entries_in b.value) (sym c.in-Full.node-is) ∙ ap entries_in (sym c.deref_mut.ensures.value) ∙ sym c.take_sides-left.ensures.whole in
    rw c.deref.ensures (all_own (CanMoveEntry c.args.buffer c.args.change) xs e ys (subst (All (CanMoveEntry c.args.buffer c.args.change)) whole c.requires.can))

pub moved-right-requires : goal.moved-right-requires
moved-right-requires t c =
    let xs = c.take_sides-left.result.0 in
    let e = c.take_sides-left.new.node.entry in
    let ys = c.take_sides-left.result.1 in
    let whole : c.args.tree ≡ xs ++ e ∷ ys = sym c.tree.view_is ∙ ap entries_of c.in-Full.is ∙ ap (λ (b : Box Node Global). entries_in b.value) (sym c.in-Full.node-is) ∙ ap entries_in (sym c.deref_mut.ensures.value) ∙ sym c.take_sides-left.ensures.whole in (
      omega (arith, right_shorter c.args.tree xs e ys whole),
      (
        all_right (IsMade (length c.args.slots.now)) xs e ys (subst (All (IsMade (length c.args.slots.now))) whole c.requires.made),
        all_right (CanMoveEntry c.args.buffer c.args.change) xs e ys (subst (All (CanMoveEntry c.args.buffer c.args.change)) whole c.requires.can),
      ),
    )

pub returns-in-Full : goal.returns-in-Full
returns-in-Full t c =
    let xs = c.take_sides-left.result.0 in
    let e = c.take_sides-left.new.node.entry in
    let ys = c.take_sides-left.result.1 in
    let whole : c.args.tree ≡ xs ++ e ∷ ys = sym c.tree.view_is ∙ ap entries_of c.in-Full.is ∙ ap (λ (b : Box Node Global). entries_in b.value) (sym c.in-Full.node-is) ∙ ap entries_in (sym c.deref_mut.ensures.value) ∙ sym c.take_sides-left.ensures.whole in
    let put : c.put_between.result ≡ c.moved-left.result ++ (entry_of e.number (span_of c.moved_stretch-stretch.result) ++ c.moved-right.result) = c.put_between.ensures in
    let own : entry_of e.number (span_of c.moved_stretch-stretch.result) ≡ moved_entry c.args.buffer c.args.change (map bare_of c.args.slots.now) e = subst (λ (n : Node). entry_of n.entry.number (span_of c.moved_stretch-stretch.result) ≡ moved_entry c.args.buffer c.args.change (map bare_of c.args.slots.now) n.entry) c.deref.ensures c.moved_stretch-stretch.ensures in
    rw (whole, put)
    (moved_three c.args.buffer c.args.change (map bare_of c.args.slots.now) xs e ys _ _ _ c.moved-left.ensures own c.moved-right.ensures)
