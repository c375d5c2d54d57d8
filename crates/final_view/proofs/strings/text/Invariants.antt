use Rattle.std.proofs.Common.{take}
use Rattle.final_view.specs.Showing.{Shows}
use Rattle.final_view.proofs.strings.text.Given as goal

abbrev pub invariant-loop-i : goal.invariant-loop-i
invariant-loop-i g l = Shows g.K.Sink.state l.initial.out l.out (take l.i l.text.items)
