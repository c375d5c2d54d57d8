use Rattle.std.proofs.Common.{◌-◌, ◌≤◌, length}
use Rattle.gap_text.proofs.Moves.{Writing}
use Rattle.gap_text.proofs.row.write.Given as goal

abbrev pub invariant-loop-i : goal.invariant-loop-i
invariant-loop-i l = Writing l.blocks l.fn.pool l.pool l.place l.codes l.i × (l.i ≤ length l.codes)

abbrev pub decreases-loop-i : goal.decreases-loop-i
decreases-loop-i l = length l.codes - l.i
