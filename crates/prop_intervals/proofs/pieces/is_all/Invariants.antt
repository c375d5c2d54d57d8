use Rattle.std.proofs.Common.{◌≤◌, ◌-◌, length}
use Rattle.prop_intervals.specs.Sets.{sets_in}
use Rattle.prop_intervals.proofs.Stepping.{OneSet}
use Rattle.prop_intervals.proofs.pieces.is_all.Given as goal

abbrev pub invariant-loop-i : goal.invariant-loop-i
invariant-loop-i l = (l.i ≤ length l.piece) × OneSet (sets_in l.piece) 0 l.i l.set

abbrev pub decreases-loop-i : goal.decreases-loop-i
decreases-loop-i l = length l.piece - l.i
