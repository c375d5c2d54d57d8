use Rattle.std.proofs.Common.{◌≡◌, ◌≤◌, IsTrue, ◌-◌, ◌+◌, length}
use Rattle.std.specs.Io.KnownBytes.{Consumes}
use Rattle.kernel_top.proofs.reading.read_all.Given as goal

abbrev pub invariant-loop-piece : goal.invariant-loop-piece
invariant-loop-piece g l = record {
  taken : Consumes (g.S.Source.state l.initial.source).left (g.S.Source.state l.source).left l.all.items;
  few : length l.all.items ≤ l.most + 1;
  unfailing : IsTrue (g.S.Source.state l.initial.source).unfailing → ((g.S.Source.state l.source).faults ≡ (g.S.Source.state l.initial.source).faults) × IsTrue (g.S.Source.state l.source).unfailing;
  faults : (g.S.Source.state l.initial.source).faults ≤ (g.S.Source.state l.source).faults;
}

abbrev pub decreases-loop-piece : goal.decreases-loop-piece
decreases-loop-piece g l = l.most + 1 - length l.all.items
