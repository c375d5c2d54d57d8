use Rattle.std.proofs.Common.{◌-◌, List, drop}
use Rattle.text_model.specs.Characters.{Ch}
use Rattle.final_view.specs.Showing.{Shows}
use Rattle.final_view.proofs.Whole.{Swept}
use Rattle.final_view.proofs.sweep.sweep.Given as goal

abbrev pub invariant-loop-at : goal.invariant-loop-at
invariant-loop-at g l = record {
  printed : List Ch;
  prints : Shows g.K.Sink.state l.initial.out l.out printed;
  swept : Swept l.overlays l.text.buffer.text l.openers l.closers l.first l.last l.at l.started.until (drop l.ended l.closers) (drop l.started.next l.openers) printed;
}

abbrev pub decreases-loop-at : goal.decreases-loop-at
decreases-loop-at g l = l.last - l.at
