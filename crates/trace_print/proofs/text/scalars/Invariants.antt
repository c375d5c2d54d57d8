use Rattle.std.proofs.Common.{◌≡◌, List, map, take, flat_map}
use Rattle.text_model.specs.Characters.{Ch, code}
use Rattle.plain_machine.specs.Lines.{shown_ch}
use Rattle.sink_printer.specs.Printing.{Prints}
use Rattle.trace_print.proofs.text.scalars.Given as goal

abbrev pub invariant-loop-n : goal.invariant-loop-n
invariant-loop-n g l = (chars : List Ch) → l.codes ≡ map code chars → Prints g.K.Sink.state l.initial.out l.out (flat_map shown_ch (take l.n chars))
