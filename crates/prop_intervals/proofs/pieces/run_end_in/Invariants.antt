use Rattle.std.proofs.Common.{◌≡◌, ◌<◌, ◌≤◌, ◌-◌, ◌++◌, length, take, drop}
use Rattle.std.specs.Prelude.{replicate}
use Rattle.prop_intervals.specs.Sets.{sets_in, run_end, other_from}
use Rattle.prop_intervals.proofs.pieces.run_end_in.Given as goal

abbrev pub invariant-loop-end : goal.invariant-loop-end
invariant-loop-end l = record {
  behind : l.i < l.end;
  within : l.end ≤ length l.piece;
  same : run_end l.i (sets_in l.piece) ≡ other_from l.set l.end (drop l.end (sets_in l.piece)) (length (sets_in l.piece));
  all : take l.end (sets_in l.piece) ≡ take l.i (sets_in l.piece) ++ replicate (l.end - l.i) l.set;
}

abbrev pub decreases-loop-end : goal.decreases-loop-end
decreases-loop-end l = length l.piece - l.end
