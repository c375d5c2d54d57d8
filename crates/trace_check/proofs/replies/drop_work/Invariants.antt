use Rattle.std.proofs.Common.{length}
use Rattle.ek_call.specs.Faults.{fault_of}
use Rattle.trace_check.specs.Meaning.{list_of}
use Rattle.trace_check.specs.Steps.{Sheds}
use Rattle.trace_check.proofs.replies.drop_work.Given as goal

abbrev pub invariant-loop-item : goal.invariant-loop-item
invariant-loop-item g l = Sheds (fault_of l.fn.fault) (g.M.Kernel.state l.fn.kernel) (g.M.Kernel.state l.kernel) (list_of l.fn.work) (list_of l.work)

abbrev pub decreases-loop-item : goal.decreases-loop-item
decreases-loop-item g l = length (list_of l.work)
