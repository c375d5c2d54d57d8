use Rattle.std.proofs.Common.{[], sym, ap, arith}
use Rattle.std.specs.Prelude.{unwrap_or}
use Rattle.std.proofs.lemmas.Option.{slice_get_past}
use Rattle.sink_printer.proofs.Printing.{prints_same, prints_nothing}
use Rattle.trace_print.proofs.symbol.symbol.Goals as goal

pub returns-else-s-count : goal.returns-else-s-count
returns-else-s-count g c = prints_same (ap (λ o. unwrap_or o []) (sym (slice_get_past c.args.symbols.now c.args.s.0 (omega (arith, c.count.ensures.count, c.if-s-count.false))))) prints_nothing
