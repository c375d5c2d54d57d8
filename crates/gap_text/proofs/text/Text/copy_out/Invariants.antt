use Rattle.std.proofs.Common.{◌≡◌, ◌≤◌, ◌+◌, ◌-◌, take, drop}
use Rattle.gap_text.specs.Text.{characters}
use Rattle.gap_text.proofs.text.Text.copy_out.Given as goal

abbrev pub invariant-loop-at : goal.invariant-loop-at
invariant-loop-at l =
    (l.from ≤ l.at) × (l.at ≤ l.to)
    × (l.text.items ≡ drop l.from (take l.at (characters l.pool l.self)))
    × (l.to ≤ l.text.spare + l.at)

abbrev pub decreases-loop-at : goal.decreases-loop-at
decreases-loop-at l = l.to - l.at
