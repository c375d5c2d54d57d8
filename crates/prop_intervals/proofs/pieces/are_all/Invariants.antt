use Rattle.std.proofs.Common.{◌≡◌, length, take}
use Rattle.std.specs.Prelude.{replicate}
use Rattle.prop_intervals.specs.Sets.{sets_in, together}
use Rattle.prop_intervals.proofs.pieces.are_all.Given as goal

abbrev pub invariant-loop-piece : goal.invariant-loop-piece
invariant-loop-piece l = sets_in (together (take l.piece-index l.pieces)) ≡ replicate (length (together (take l.piece-index l.pieces))) l.set
