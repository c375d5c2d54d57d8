use Rattle.std.proofs.Common.{All, ◌+◌}
use Rattle.layer_rows.specs.Upto.{EndsUpto}
use Rattle.layer_rows.proofs.overlays.many_overlays_follow_a_hundred_thousand_insertions.Given as goal

abbrev pub invariant-loop-i : goal.invariant-loop-i
invariant-loop-i g l = All (EndsUpto (65_536 + l.i)) l.overlays
