use Rattle.std.proofs.Common.{take}
use Rattle.host_link.specs.Meaning.{exchanges_of}
use Rattle.journal_text.specs.Lines.{journal}
use Rattle.sink_printer.specs.Printing.{Prints}
use Rattle.journal_text.proofs.line.write_journal.Given as goal

abbrev pub invariant-lines : goal.invariant-lines
invariant-lines g l = Prints g.K.Sink.state l.initial.out l.out (journal (take l.i (exchanges_of l.list)))
