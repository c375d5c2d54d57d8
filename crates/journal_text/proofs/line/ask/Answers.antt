use Rattle.std.proofs.Common.{ap}
use Rattle.journal_text.specs.Lines.{hex}
use Rattle.sink_printer.proofs.Printing.{prints_then, prints_same}
use Rattle.journal_text.proofs.line.ask.Goals as goal

pub returns-in-Read : goal.returns-in-Read
returns-in-Read g c = rw c.in-Read.is c.named.ensures

pub returns-in-End : goal.returns-in-End
returns-in-End g c = rw c.in-End.is c.named-in-End.ensures

pub returns-in-Close : goal.returns-in-Close
returns-in-Close g c = rw c.in-Close.is c.named-in-Close.ensures

pub returns-in-Kill : goal.returns-in-Kill
returns-in-Kill g c = rw c.in-Kill.is c.named-in-Kill.ensures

pub returns-in-Spawn : goal.returns-in-Spawn
returns-in-Spawn g c = rw c.in-Spawn.is (prints_then c.put.ensures (prints_then (prints_same (ap hex c.as_slice.ensures) c.hex.ensures) c.led_words.ensures))

pub returns-in-Send : goal.returns-in-Send
returns-in-Send g c = rw c.in-Send.is (prints_then c.put-in-Send.ensures (prints_then c.number.ensures (prints_then c.put_byte.ensures (prints_same (ap hex c.as_slice-in-Send.ensures) c.hex-in-Send.ensures))))
