use Rattle.std.proofs.Common.{ap, rules, SFits, w32}
use Rattle.std.proofs.lemmas.Int.{to_z-of_z}
use Rattle.plain_machine.specs.Lines.{shown_int}
use Rattle.journal_text.specs.Lines.{hex}
use Rattle.sink_printer.proofs.Printing.{prints_then, prints_same}
use Rattle.journal_text.proofs.line.answer.Goals as goal

pub returns-in-Started : goal.returns-in-Started
returns-in-Started g c = rw c.in-Started.is c.named.ensures

pub returns-in-Refused : goal.returns-in-Refused
returns-in-Refused g c = rw c.in-Refused.is c.put.ensures

pub returns-in-Nothing : goal.returns-in-Nothing
returns-in-Nothing g c = rw c.in-Nothing.is c.put-in-Nothing.ensures

pub returns-in-End : goal.returns-in-End
returns-in-End g c = rw c.in-End.is c.put-in-End.ensures

pub returns-in-Signal : goal.returns-in-Signal
returns-in-Signal g c = rw c.in-Signal.is c.put-in-Signal.ensures

pub returns-in-Running : goal.returns-in-Running
returns-in-Running g c = rw c.in-Running.is c.put-in-Running.ensures

pub returns-in-Sent : goal.returns-in-Sent
returns-in-Sent g c = rw c.in-Sent.is c.put-in-Sent.ensures

pub returns-in-Broken : goal.returns-in-Broken
returns-in-Broken g c = rw c.in-Broken.is c.put-in-Broken.ensures

pub returns-in-Closed : goal.returns-in-Closed
returns-in-Closed g c = rw c.in-Closed.is c.put-in-Closed.ensures

pub returns-in-Killed : goal.returns-in-Killed
returns-in-Killed g c = rw c.in-Killed.is c.put-in-Killed.ensures

pub returns-in-Failed : goal.returns-in-Failed
returns-in-Failed g c = rw c.in-Failed.is c.put-in-Failed.ensures

pub returns-in-Bytes : goal.returns-in-Bytes
returns-in-Bytes g c = rw c.in-Bytes.is (prints_then c.put-in-Bytes.ensures (prints_same (ap hex c.as_slice.ensures) c.hex.ensures))

pub returns-in-Code : goal.returns-in-Code
returns-in-Code g c =
    let narrow : SFits w32 c.in-Code.code = search rules in
    rw c.in-Code.is (prints_then c.put-in-Code.ensures (prints_same (ap shown_int (to_z-of_z w32 c.in-Code.code narrow)) c.signed.ensures))
