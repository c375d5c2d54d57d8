use Rattle.std.proofs.Common.{length, ap, arith}
use Rattle.marker_set.proofs.markers.Markers.settle.Goals as goal

pub settle_one-requires : goal.settle_one-requires
settle_one-requires c = omega (arith, c.loop-k.invariant.end, ap length c.loop-k.invariant.same)
