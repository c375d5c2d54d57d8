use Rattle.std.proofs.lemmas.Result.{IfOk-weaker}
use Rattle.trace_check.proofs.changes.keep_ends.Goals as goal

pub returns-clause-state : goal.returns-clause-state
returns-clause-state g c = IfOk-weaker c.ends.result _ _ (λ ends is. c.in_ok-keep_ends.ensures.ok) c.ends.ensures
