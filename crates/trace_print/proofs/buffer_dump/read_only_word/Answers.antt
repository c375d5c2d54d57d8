use Rattle.std.proofs.Common.{ap, sym}
use Rattle.std.specs.Prelude.{codes, [], if◌then◌else◌}
use Rattle.sink_printer.proofs.Printing.{prints_same, prints_nothing}
use Rattle.trace_print.proofs.buffer_dump.read_only_word.Goals as goal

pub returns-else-read_only : goal.returns-else-read_only
returns-else-read_only g c = prints_same (ap (λ b. if b then codes " read-only" else []) (sym c.if-read_only.false)) prints_nothing
