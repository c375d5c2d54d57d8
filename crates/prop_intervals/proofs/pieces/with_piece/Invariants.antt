use Rattle.std.proofs.Common.{◌≡◌, ◌-◌, ◌≤◌, ◌++◌, length, take}
use Rattle.prop_intervals.specs.Runs.{sets_of, AreApart}
use Rattle.prop_intervals.specs.Sets.{sets_in}
use Rattle.prop_intervals.proofs.pieces.with_piece.Given as goal

abbrev pub invariant-loop-i : goal.invariant-loop-i
invariant-loop-i l = (l.i ≤ length l.piece) × (sets_of l.tree ≡ sets_of l.fn.tree ++ take l.i (sets_in l.piece)) × AreApart l.tree

abbrev pub decreases-loop-i : goal.decreases-loop-i
decreases-loop-i l = length l.piece - l.i
