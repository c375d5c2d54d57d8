use Rattle.std.proofs.Common.{◌≡◌, drop}
use Rattle.buffer_core.specs.Undoing.{all_less}
use Rattle.buffer_core.proofs.moving_back.take_all_back.Given as goal

abbrev pub invariant-loop-k : goal.invariant-loop-k
invariant-loop-k l = all_less l.id l.size (drop l.k-index l.moves) l.markers ≡ all_less l.id l.size l.moves l.initial.markers
