use Rattle.std.proofs.Common.{◌+◌, ◌≤◌, length, drop, ap, subst, sym, ◌∙◌, arith}
use Rattle.std.proofs.lemmas.List.{drop_all}
use Rattle.text_model.specs.Undo.{trial}
use Rattle.buffer_core.specs.Margins.{AllBetween}
use Rattle.buffer_core.proofs.MarginLemmas.{tried_in_more, tried_from, all_from, lies_between}
use Rattle.buffer_core.proofs.UndoLemmas.{all_left}
use Rattle.buffer_core.proofs.margins.untouched.Goals as goal

pub left_by-requires : goal.left_by-requires
left_by-requires c =
    (tried_from c.args.records.now.state.entries c.loop-i.i _ c.loop-i.left.size c.at.ensures c.loop-i.invariant.1).0

pub loop-i-init : goal.loop-i-init
loop-i-init c =
    let es = c.args.records.now.state.entries in
    let inside = c.requires.inside in (
      omega arith,
      ap (trial 0 c.args.size) (all_left es) ∙ tried_in_more es inside.0 inside.1 c.args.size inside.2 inside.3,
      λ front behind f b between. subst (AllBetween front behind c.args.size) (all_left es) between,
    )

pub loop-i-preserved : goal.loop-i-preserved
loop-i-preserved c =
    let es = c.args.records.now.state.entries in
    let one = c.in_ok-left.ensures in
    let rest = tried_from es c.loop-i.i _ c.loop-i.left.size c.at.ensures c.loop-i.invariant.1 in (
      omega (arith, one.front, c.loop-i.invariant.0),
      ap (λ n. trial 0 n (drop (c.loop-i.i + 1) es)) one.size ∙ rest.1,
      λ front behind f b between.
          c.loop-i.invariant.2 front behind (omega (arith, f, one.front)) (omega (arith, b, one.behind))
          (all_from es c.loop-i.i _ front behind c.loop-i.left.size _ c.at.ensures one.size (lies_between _ _ front behind c.loop-i.left.size _ f b one.between) between),
    )

pub returns-clause-order : goal.returns-clause-order
returns-clause-order c = omega (arith, c.loop-i.invariant.0, c.min.ensures, c.saturating_sub.ensures)

pub returns-clause-between : goal.returns-clause-between
returns-clause-between c =
    let es = c.args.records.now.state.entries in
    let none : length es ≤ c.loop-i.i = omega (arith, c.loop-i-test.false, c.len-i-end.ensures.exact) in
    c.loop-i.invariant.2 c.loop-i.left.front c.min.result (omega arith) (omega (arith, c.min.ensures))
    (subst (AllBetween c.loop-i.left.front c.min.result c.loop-i.left.size) (sym (drop_all c.loop-i.i es none)) tt)
