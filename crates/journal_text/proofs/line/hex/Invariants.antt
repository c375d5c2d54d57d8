use Rattle.std.proofs.Common.{take}
use Rattle.journal_text.specs.Lines.{hex}
use Rattle.sink_printer.specs.Printing.{Prints}
use Rattle.journal_text.proofs.line.hex.Given as goal

abbrev pub invariant-bytes : goal.invariant-bytes
invariant-bytes g l = Prints g.K.Sink.state l.initial.out l.out (hex (take l.i l.bytes))
