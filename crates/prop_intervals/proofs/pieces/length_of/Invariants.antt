use Rattle.std.proofs.Common.{◌≡◌, length, take}
use Rattle.prop_intervals.specs.Sets.{together}
use Rattle.prop_intervals.proofs.pieces.length_of.Given as goal

abbrev pub invariant-loop-piece : goal.invariant-loop-piece
invariant-loop-piece l = l.total ≡ length (together (take l.piece-index l.pieces))
