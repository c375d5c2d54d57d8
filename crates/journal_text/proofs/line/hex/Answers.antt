use Rattle.std.proofs.Common.{get_or}
use Rattle.std.proofs.lemmas.Option.{slice_get-get_or}
use Rattle.journal_text.specs.Lines.{hex_byte}
use Rattle.journal_text.proofs.Gathering.{one_on, all_of}
use Rattle.sink_printer.proofs.Printing.{prints_then, prints_same, prints_nothing}
use Rattle.journal_text.proofs.line.hex.Goals as goal

pub bytes-init : goal.bytes-init
bytes-init g c = prints_nothing

pub bytes-preserved : goal.bytes-preserved
bytes-preserved g c =
    prints_same (one_on hex_byte c.args.bytes.now c.bytes.i (get_or c.args.bytes.now c.bytes.i 0) (slice_get-get_or c.args.bytes.now c.bytes.i 0 c.bytes-test.true)) (prints_then c.bytes.invariant (prints_same c.hex_byte.ensures c.put.ensures))

pub returns : goal.returns
returns g c = prints_same (all_of hex_byte c.args.bytes.now c.bytes.i c.bytes-test.false) c.bytes.invariant
