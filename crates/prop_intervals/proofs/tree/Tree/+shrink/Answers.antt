use Rattle.std.proofs.Common.{◌≡◌, ◌-◌, ◌∷◌, ◌++◌, length, refl, ap, arith, length-append}
use Rattle.prop_intervals.specs.Tree.{run_of}
use Rattle.prop_intervals.proofs.RunLemmas.{part-left, part-own, part-right, part-size, shrunk-left, shrunk-own, shrunk-right, less-left, less-own, less-right}
use Rattle.prop_intervals.proofs.tree.Tree.+shrink.Goals.{in-Empty, in-Full+else-at-front+else-at-front-2}
use Rattle.prop_intervals.proofs.tree.Tree.+shrink.Goals as goal

pub overflow_sub-node : goal.overflow_sub-node
overflow_sub-node t c =
    let own = rw (c.in-Full.is, ← c.deref_mut-node.ensures.value) at c.self.invariant in
    let within = part-size c.args.at c.args.n _ (rw (← c.self.view_is, c.in-Full.is, ← c.deref_mut-node.ensures.value) at c.requires) in
    omega (arith, own, within)

pub shrink-requires : goal.shrink-requires
shrink-requires t c =
    let n = c.deref_mut-node.result.now in
    let part = rw (← c.self.view_is, c.in-Full.is, ← c.deref_mut-node.ensures.value) at c.requires in
    let seen : c.args.self.now ≡ n.left ++ run_of n ∷ n.right = rw (← c.self.view_is, c.in-Full.is, ← c.deref_mut-node.ensures.value) refl in
    (omega (arith, c.decreases, ap length seen, length-append n.left (run_of n ∷ n.right)), part-left c.args.at c.args.n c.len-front.result n.left (run_of n) n.right c.len-front.ensures c.if-at-front.true part)

pub invariant_of-self : goal.invariant_of-self
invariant_of-self t c =
    let n = c.deref_mut-node.result.now in
    let own = rw (c.in-Full.is, ← c.deref_mut-node.ensures.value) at c.self.invariant in
    let all = rw (← c.self.view_is, c.in-Full.is, ← c.deref_mut-node.ensures.value) at c.requires in
    let part = part-left c.args.at c.args.n c.len-front.result n.left (run_of n) n.right c.len-front.ensures c.if-at-front.true all in
    less-left c.args.at c.args.n n.total n.left c.shrink.new.self (run_of n) n.right part c.shrink.ensures own

pub returns-then-at-front : goal.returns-then-at-front
returns-then-at-front t c =
    let n = c.deref_mut-node.result.now in
    rw (← c.self.view_is, c.in-Full.is, ← c.deref_mut-node.ensures.value)
    (shrunk-left c.args.at c.args.n c.len-front.result n.left c.shrink.new.self (run_of n) n.right c.len-front.ensures c.if-at-front.true c.shrink.ensures)

pub overflow_sub-node-then-at-front-2 : goal.overflow_sub-node-then-at-front-2
overflow_sub-node-then-at-front-2 t c =
    let n = c.deref_mut-node.result.now in
    let all = rw (← c.self.view_is, c.in-Full.is, ← c.deref_mut-node.ensures.value) at c.requires in
    let less = part-own c.args.at c.args.n c.len-front.result n.left (run_of n) n.right c.len-front.ensures c.if-at-front.false c.if-at-front-2.true all in
    omega (arith, less)

pub invariant_of-self-then-at-front-2 : goal.invariant_of-self-then-at-front-2
invariant_of-self-then-at-front-2 t c =
    let n = c.deref_mut-node.result.now in
    let own = rw (c.in-Full.is, ← c.deref_mut-node.ensures.value) at c.self.invariant in
    let all = rw (← c.self.view_is, c.in-Full.is, ← c.deref_mut-node.ensures.value) at c.requires in
    let less = part-own c.args.at c.args.n c.len-front.result n.left (run_of n) n.right c.len-front.ensures c.if-at-front.false c.if-at-front-2.true all in
    less-own c.args.n n.total n.left (run_of n) n.right less own

pub returns-then-at-front-2 : goal.returns-then-at-front-2
returns-then-at-front-2 t c =
    let n = c.deref_mut-node.result.now in
    rw (← c.self.view_is, c.in-Full.is, ← c.deref_mut-node.ensures.value)
    (shrunk-own c.args.at c.args.n c.len-front.result n.left (run_of n) n.right c.len-front.ensures c.if-at-front.false c.if-at-front-2.true)

pub shrink-requires-in-Full : goal.shrink-requires-in-Full
shrink-requires-in-Full t c =
    let n = c.deref_mut-node.result.now in
    let all = rw (← c.self.view_is, c.in-Full.is, ← c.deref_mut-node.ensures.value) at c.requires in
    let seen : c.args.self.now ≡ n.left ++ run_of n ∷ n.right = rw (← c.self.view_is, c.in-Full.is, ← c.deref_mut-node.ensures.value) refl in
    (omega (arith, c.decreases, ap length seen, length-append n.left (run_of n ∷ n.right)), part-right c.args.at c.args.n c.len-front.result n.left (run_of n) n.right c.len-front.ensures c.if-at-front.false c.if-at-front-2.false all)

pub invariant_of-self-2 : goal.invariant_of-self-2
invariant_of-self-2 t c = elim c.match-self.branch [
  | in-Empty w ↦ rw (w.self-inside-is, w.in-Empty.is) tt
  | in-Full+else-at-front+else-at-front-2 w ↦ (
      let n = w.deref_mut-node.result.now in
      let own = rw (w.in-Full.is, ← w.deref_mut-node.ensures.value) at c.self.invariant in
      let all = rw (← c.self.view_is, w.in-Full.is, ← w.deref_mut-node.ensures.value) at c.requires in
      let part = part-right c.args.at c.args.n w.len-front.result n.left (run_of n) n.right w.len-front.ensures w.if-at-front.false w.if-at-front-2.false all in
      rw w.self-inside-is
      (less-right (c.args.at - w.len-front.result - n.len) c.args.n n.total n.left (run_of n) n.right w.shrink-in-Full.new.self part w.shrink-in-Full.ensures own))
]

pub returns : goal.returns
returns t c = elim c.match-self.branch [
  | in-Empty w ↦ rw (← c.self.view_is, w.self-inside-is, w.in-Empty.is) refl
  | in-Full+else-at-front+else-at-front-2 w ↦ (
      let n = w.deref_mut-node.result.now in
      rw (← c.self.view_is, w.self-inside-is, w.in-Full.is, ← w.deref_mut-node.ensures.value)
      (shrunk-right c.args.at c.args.n w.len-front.result n.left (run_of n) n.right w.shrink-in-Full.new.self w.len-front.ensures w.if-at-front.false w.if-at-front-2.false w.shrink-in-Full.ensures))
]
