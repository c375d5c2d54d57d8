use Rattle.std.proofs.Common.{sym}
use Rattle.buffer_core.proofs.Returning.{moved_on, no_moves}
use Rattle.buffer_core.proofs.moving_back.standing_moves.Goals as goal

pub returns-in_default : goal.returns-in_default
returns-in_default c =
    sym (no_moves c.args.id c.args.place c.args.markers.now c.args.undo.now.state.entries c.loop-j.j _ _ _ c.loop-j.moves.items
    c.at.ensures c.in_default.not-Moved c.loop-j.invariant)

pub loop-j-preserved : goal.loop-j-preserved
loop-j-preserved c =
    moved_on c.args.id c.args.place c.args.markers.now c.args.undo.now.state.entries c.loop-j.j _ _ _ _ _ c.loop-j.moves.items _
    c.at.ensures c.in-Moved.is c.loop-j.invariant c.in_ok-add_standing.ensures
