use Rattle.std.proofs.Common.{◌≡◌, drop}
use Rattle.std.specs.Prelude.{◌==◌}
use Rattle.std.specs.List.{list_any}
use Rattle.trace_check.proofs.processes.is_new.Given as goal

abbrev pub invariant-loop-p : goal.invariant-loop-p
invariant-loop-p g l = list_any (λ x. x.child == l.child) l.table ≡ list_any (λ x. x.child == l.child) (drop l.p l.table)
