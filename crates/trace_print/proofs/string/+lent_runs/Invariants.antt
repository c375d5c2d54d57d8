use Rattle.std.proofs.Common.{length}
use Rattle.trace_print.proofs.string.+lent_runs.Given as goal

abbrev pub decreases-lent_runs : goal.decreases-lent_runs
decreases-lent_runs g l = length l.runs.now
