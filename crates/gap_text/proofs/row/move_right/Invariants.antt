use Rattle.std.proofs.Common.{◌-◌, ◌≤◌}
use Rattle.gap_text.proofs.Moves.{Moving}
use Rattle.gap_text.proofs.row.move_right.Given as goal

abbrev pub invariant-loop-place : goal.invariant-loop-place
invariant-loop-place l = (l.place ≤ l.to) × Moving l.blocks l.fn.pool l.pool l.gap l.spare l.place

abbrev pub decreases-loop-place : goal.decreases-loop-place
decreases-loop-place l = l.to - l.place
