use Rattle.std.proofs.Common.{◌≡◌, ℕ, ◌≤◌, None, drop}
use Rattle.text_model.specs.Undo.{trial}
use Rattle.buffer_core.specs.Margins.{AllBetween}
use Rattle.buffer_core.proofs.margins.untouched.Given as goal

-- the other records lie in the text as it then is, and what lies between the margins of them all does so from the first on
abbrev pub invariant-loop-i : goal.invariant-loop-i
invariant-loop-i l =
    (l.left.front ≤ l.size)
    × (trial 0 l.left.size (drop l.i l.records.state.entries) ≡ None)
    × ((front behind : ℕ) → front ≤ l.left.front → behind ≤ l.left.behind
    → AllBetween front behind l.left.size (drop l.i l.records.state.entries) → AllBetween front behind l.size l.records.state.entries)
