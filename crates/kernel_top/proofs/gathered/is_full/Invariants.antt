use Rattle.std.proofs.Common.{◌≡◌, drop}
use Rattle.std.specs.List.{list_any}
use Rattle.session_laws.specs.Sessions.{is_stopped}
use Rattle.kernel_top.proofs.gathered.is_full.Given as goal

abbrev pub invariant-loop-p : goal.invariant-loop-p
invariant-loop-p l = list_any is_stopped (drop l.p l.processes) ≡ list_any is_stopped l.processes
