use Rattle.std.proofs.Common.{refl}
use Rattle.prop_intervals.specs.Tree.{run_of}
use Rattle.prop_intervals.proofs.RunLemmas.{grown-left, grown-own, grown-right, total-left, total-own, total-right}
use Rattle.prop_intervals.proofs.tree.Tree.+grow.Goals.{in-Empty, in-Full+else-at-front+else-at-front-2}
use Rattle.prop_intervals.proofs.tree.Tree.+grow.Goals as goal

pub invariant_of-self : goal.invariant_of-self
invariant_of-self t c =
    let n = c.deref_mut-node.result.now in
    let own = rw (c.in-Full.is, ← c.deref_mut-node.ensures.value) at c.self.invariant in
    total-left c.args.at c.args.n c.len-front.result n.total n.left c.grow.new.self (run_of n) n.right c.len-front.ensures c.if-at-front.true c.grow.ensures own

pub returns-then-at-front : goal.returns-then-at-front
returns-then-at-front t c =
    let n = c.deref_mut-node.result.now in
    rw (← c.self.view_is, c.in-Full.is, ← c.deref_mut-node.ensures.value)
    (grown-left c.args.at c.args.n c.len-front.result n.left c.grow.new.self (run_of n) n.right c.len-front.ensures c.if-at-front.true c.grow.ensures)

pub invariant_of-self-then-at-front-2 : goal.invariant_of-self-then-at-front-2
invariant_of-self-then-at-front-2 t c =
    let n = c.deref_mut-node.result.now in
    let own = rw (c.in-Full.is, ← c.deref_mut-node.ensures.value) at c.self.invariant in
    total-own c.args.n n.total n.left (run_of n) n.right own

pub returns-then-at-front-2 : goal.returns-then-at-front-2
returns-then-at-front-2 t c =
    let n = c.deref_mut-node.result.now in
    rw (← c.self.view_is, c.in-Full.is, ← c.deref_mut-node.ensures.value)
    (grown-own c.args.at c.args.n c.len-front.result n.left (run_of n) n.right c.len-front.ensures c.if-at-front.false c.if-at-front-2.true)

pub invariant_of-self-2 : goal.invariant_of-self-2
invariant_of-self-2 t c = elim c.match-self.branch [
  | in-Empty w ↦ rw (w.self-inside-is, w.in-Empty.is) tt
  | in-Full+else-at-front+else-at-front-2 w ↦ (
      let n = w.deref_mut-node.result.now in
      let own = rw (w.in-Full.is, ← w.deref_mut-node.ensures.value) at c.self.invariant in
      let within = rw (← c.self.view_is, w.in-Full.is, ← w.deref_mut-node.ensures.value) at c.requires.within in
      rw w.self-inside-is
      (total-right c.args.at c.args.n w.len-front.result n.total n.left (run_of n) n.right w.grow-in-Full.new.self w.len-front.ensures w.if-at-front.false w.if-at-front-2.false within w.grow-in-Full.ensures own))
]

pub returns : goal.returns
returns t c = elim c.match-self.branch [
  | in-Empty w ↦ rw (← c.self.view_is, w.self-inside-is, w.in-Empty.is) refl
  | in-Full+else-at-front+else-at-front-2 w ↦ (
      let n = w.deref_mut-node.result.now in
      rw (← c.self.view_is, w.self-inside-is, w.in-Full.is, ← w.deref_mut-node.ensures.value)
      (grown-right c.args.at c.args.n w.len-front.result n.left (run_of n) n.right w.grow-in-Full.new.self w.len-front.ensures w.if-at-front.false w.if-at-front-2.false w.grow-in-Full.ensures))
]
