use Rattle.std.proofs.Common.{◌≡◌, length}
use Rattle.marker_set.proofs.markers.Markers.settle.Given as goal

abbrev pub invariant-loop-k : goal.invariant-loop-k
invariant-loop-k l = record {
  end : l.k-end ≡ length l.initial.self;
  same : l.self ≡ l.initial.self;
}
