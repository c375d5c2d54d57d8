use Rattle.std.proofs.Common.{◌≡◌, ◌++◌, drop}
use Rattle.text_model.specs.Commit.{moves_behind}
use Rattle.buffer_core.specs.Undoing.{standing}
use Rattle.buffer_core.proofs.moving_back.standing_moves.Given as goal

abbrev pub invariant-loop-j : goal.invariant-loop-j
invariant-loop-j l =
    standing l.id l.place l.markers (moves_behind (drop l.i l.undo.state.entries))
    ≡ l.moves.items ++ standing l.id l.place l.markers (moves_behind (drop l.j l.undo.state.entries))
