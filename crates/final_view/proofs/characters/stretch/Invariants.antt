use Rattle.std.proofs.Common.{◌≡◌, ◌<◌, ◌≤◌, ◌-◌, ◌++◌, List}
use Rattle.text_model.specs.Characters.{Ch}
use Rattle.text_model.specs.Properties.{part}
use Rattle.final_view.specs.Showing.{Shows}
use Rattle.final_view.specs.Visible.{visible}
use Rattle.final_view.proofs.characters.stretch.Given as goal

abbrev pub invariant-loop-at : goal.invariant-loop-at
invariant-loop-at g l = record {
  printed : List Ch;
  prints : Shows g.K.Sink.state l.initial.out l.out printed;
  shown : printed ++ visible l.until l.at (part l.at l.to l.text.buffer.text) ≡ visible l.until l.from (part l.from l.to l.text.buffer.text);
  within : l.at ≤ l.to;
  hidden : l.at < l.to → l.until ≤ l.at;
}

abbrev pub decreases-loop-at : goal.decreases-loop-at
decreases-loop-at g l = l.to - l.at
