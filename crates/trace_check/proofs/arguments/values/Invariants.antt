use Rattle.std.proofs.Common.{◌≡◌, map, drop}
use Rattle.plain_machine.specs.Forms.{evaluate}
use Rattle.ek_types.specs.Listing.{items_of}
use Rattle.ek_call.specs.Meaning.{arg_of, view}
use Rattle.kernel_steps.proofs.Evaluating.{prefixed}
use Rattle.trace_check.proofs.arguments.values.Given as goal

abbrev pub invariant-loop-i : goal.invariant-loop-i
invariant-loop-i g l = evaluate (g.M.Kernel.state l.kernel) (map arg_of (items_of l.args)) ≡ prefixed (map view (items_of l.values)) (evaluate (g.M.Kernel.state l.kernel) (drop l.i (map arg_of (items_of l.args))))
