use Rattle.std.proofs.Common.{◌≡◌}
use Rattle.marker_set.proofs.markers.Markers.join_small.Given as goal

abbrev pub invariant-loop-cell : goal.invariant-loop-cell
invariant-loop-cell l = l.self ≡ l.initial.self
