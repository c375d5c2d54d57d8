use Rattle.std.proofs.Common.{◌-◌, List, length, drop}
use Rattle.text_model.specs.Characters.{Ch}
use Rattle.final_view.specs.Showing.{Shows}
use Rattle.final_view.specs.Marks.{end_key, ends_here, closed_of}
use Rattle.final_view.proofs.Passing.{Going}
use Rattle.final_view.proofs.Places.{ends_sound}
use Rattle.final_view.proofs.strings.close.Given as goal

abbrev pub invariant-loop-next : goal.invariant-loop-next
invariant-loop-next g l = record {
  printed : List Ch;
  prints : Shows g.K.Sink.state l.initial.out l.out printed;
  going : Going end_key (ends_here l.first) (ends_sound l.first) (closed_of l.overlays) l.at (drop l.initial.next l.closers) (drop l.next l.closers) printed;
}

abbrev pub decreases-loop-next : goal.decreases-loop-next
decreases-loop-next g l = length l.closers - l.next
