use Rattle.std.proofs.Common.{take}
use Rattle.host_link.specs.Meaning.{words_of}
use Rattle.journal_text.specs.Lines.{led_words}
use Rattle.sink_printer.specs.Printing.{Prints}
use Rattle.journal_text.proofs.line.led_words.Given as goal

abbrev pub invariant-words : goal.invariant-words
invariant-words g l = Prints g.K.Sink.state l.initial.out l.out (led_words (take l.i (words_of l.words)))
