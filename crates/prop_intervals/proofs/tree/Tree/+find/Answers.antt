use Rattle.std.proofs.Common.{arith}
use Rattle.prop_intervals.specs.Tree.{run_of}
use Rattle.prop_intervals.proofs.RunLemmas.{run_at-node, run_at-right}
use Rattle.prop_intervals.proofs.tree.Tree.+find.Goals as goal

pub returns-then-place-front-2-clause-exact : goal.returns-then-place-front-2-clause-exact
returns-then-place-front-2-clause-exact t c =
    let n = c.deref-node.result.now in
    rw (← c.self.view_is, c.in-Full.is, ← c.deref-node.ensures)
    (run_at-node n.left (run_of n) n.right c.args.place c.len-front.result c.len-front.ensures c.if-place-front.false c.if-place-front-2.true)

pub returns-clause-exact : goal.returns-clause-exact
returns-clause-exact t c =
    let n = c.deref-node.result.now in
    rw (← c.self.view_is, c.in-Full.is, ← c.deref-node.ensures)
    (run_at-right n.left (run_of n) n.right c.args.place c.len-front.result _ _ _ c.len-front.ensures (omega arith) c.find-found.ensures.exact)
