use Rattle.std.proofs.Common.{◌≡◌, ◌≤◌, ◌+◌, ◌-◌, length, take}
use Rattle.std.specs.Io.KnownBytes.{Appends}
use Rattle.ek_types.proofs.writing.write_all.Given as goal

abbrev pub invariant-loop-at : goal.invariant-loop-at
invariant-loop-at g l = record {
  within : l.at ≤ length l.bytes;
  written : Appends (g.K.Sink.state l.initial.sink).held (g.K.Sink.state l.sink).held (take l.at l.bytes);
  later : (g.K.Sink.state l.initial.sink).faults ≤ (g.K.Sink.state l.sink).faults;
  faults : length l.bytes ≤ (g.K.Sink.state l.initial.sink).room → (g.K.Sink.state l.sink).faults ≡ (g.K.Sink.state l.initial.sink).faults;
  room : length l.bytes ≤ (g.K.Sink.state l.initial.sink).room → (g.K.Sink.state l.initial.sink).room ≤ (g.K.Sink.state l.sink).room + l.at;
}

abbrev pub decreases-loop-at : goal.decreases-loop-at
decreases-loop-at g l = length l.bytes - l.at
