use Rattle.trace_check.proofs.Agreeing.{agrees_at_first}
use Rattle.trace_check.proofs.comparing.ComparingSink.new.Goals as goal

pub invariant_of-result : goal.invariant_of-result
invariant_of-result c = rw c.new.ensures (agrees_at_first c.args.claimed.now c.requires)
