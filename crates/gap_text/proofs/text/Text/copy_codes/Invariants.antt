use Rattle.std.proofs.Common.{◌≡◌, ◌-◌, ◌≤◌, length}
use Rattle.gap_text.specs.Text.{codes}
use Rattle.gap_text.proofs.Moves.{Writing}
use Rattle.gap_text.proofs.text.Text.copy_codes.Given as goal

abbrev pub invariant-loop-place : goal.invariant-loop-place
invariant-loop-place l =
    Writing l.blocks l.fn.pool l.pool 0 (codes l.fn.pool l.self) l.place × (l.place ≤ length (codes l.fn.pool l.self)) × (length l.held ≡ 256)

abbrev pub decreases-loop-place : goal.decreases-loop-place
decreases-loop-place l = l.size - l.place
