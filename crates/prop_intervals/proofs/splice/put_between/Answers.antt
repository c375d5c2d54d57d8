use Rattle.std.proofs.Common.{arith}
use Rattle.prop_intervals.specs.Runs.{before}
use Rattle.prop_intervals.proofs.RunLemmas.{size-before}
use Rattle.prop_intervals.proofs.SetLemmas.{spliced, size-cut, size-glued}
use Rattle.prop_intervals.proofs.splice.put_between.Goals as goal

pub glue-requires-2 : goal.glue-requires-2
glue-requires-2 c =
    let head = before c.args.to c.args.tree in
    rw (c.glue.ensures, c.cut-front.ensures.front, c.cut-head.ensures.front, c.cut-head.ensures.back)
    (omega (arith, size-glued (before c.args.from head) c.args.middle, size-before c.args.from head, size-cut c.args.to c.args.tree))

pub returns-clause-sets : goal.returns-clause-sets
returns-clause-sets c =
    rw (c.glue-2.ensures, c.glue.ensures, c.cut-front.ensures.front, c.cut-head.ensures.front, c.cut-head.ensures.back)
    (spliced c.args.tree c.args.middle c.args.from c.args.to c.requires.order)
