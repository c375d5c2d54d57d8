use Rattle.std.proofs.Common.{◌≤◌, map}
use Rattle.text_model.specs.Properties.{part}
use Rattle.final_view.specs.Showing.{Shows}
use Rattle.final_view.proofs.characters.all.Given as goal

abbrev pub invariant-loop-i : goal.invariant-loop-i
invariant-loop-i g l = record {
  shown : Shows g.K.Sink.state l.initial.out l.out (map (λ c. c.0) (part l.from l.i l.text.buffer.text));
  behind : l.from ≤ l.i;
}
