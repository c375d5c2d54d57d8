use Rattle.std.proofs.Common.{◌≡◌, take}
use Rattle.prop_intervals.specs.Runs.{sets_of, AreApart}
use Rattle.prop_intervals.specs.Sets.{sets_in, together}
use Rattle.prop_intervals.proofs.pieces.runs_of.Given as goal

abbrev pub invariant-loop-piece : goal.invariant-loop-piece
invariant-loop-piece l = (sets_of l.tree ≡ sets_in (together (take l.piece-index l.pieces))) × AreApart l.tree
