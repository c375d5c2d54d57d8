use Rattle.std.proofs.Common.{arith}
use Rattle.prim_changes.proofs.commits.commit_undo.Goals as goal

pub apply_plan-requires-clause-plan : goal.apply_plan-requires-clause-plan
apply_plan-requires-clause-plan c = (c.args.n, omega arith, c.in_ok-plan.ensures.0)
