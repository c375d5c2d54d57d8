use Rattle.std.proofs.Common.{◌-◌, List, length, drop}
use Rattle.text_model.specs.Characters.{Ch}
use Rattle.final_view.specs.Showing.{Shows}
use Rattle.final_view.specs.Marks.{start_key, starts_here, opened_of, Cover}
use Rattle.final_view.proofs.Passing.{Going}
use Rattle.final_view.proofs.Places.{starts_sound}
use Rattle.final_view.proofs.strings.open.Given as goal

abbrev pub invariant-loop-next : goal.invariant-loop-next
invariant-loop-next g l = record {
  printed : List Ch;
  prints : Shows g.K.Sink.state l.initial.out l.out printed;
  going : Going start_key (starts_here l.last) (starts_sound l.last) (opened_of l.overlays) l.at (drop l.initial.next l.openers) (drop l.next l.openers) printed;
  cover : Cover l.overlays l.at l.initial.until l.until (drop l.initial.next l.openers) (drop l.next l.openers);
}

abbrev pub decreases-loop-next : goal.decreases-loop-next
decreases-loop-next g l = length l.openers - l.next
