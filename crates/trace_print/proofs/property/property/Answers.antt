use Rattle.std.proofs.Common.{ap, sym}
use Rattle.plain_machine.specs.Lines.{shown_prop}
use Rattle.ek_types.specs.Property.{prop_of}
use Rattle.sink_printer.proofs.Printing.{prints_then, prints_same}
use Rattle.trace_print.proofs.property.property.Goals as goal

pub returns-in-Syms : goal.returns-in-Syms
returns-in-Syms g c =
    prints_same (ap (λ v. shown_prop c.args.symbols.now (prop_of v)) (sym c.in-Syms.is)) (prints_then c.put-in-Syms.ensures (prints_then c.symbol_list.ensures c.put-in-Syms-2.ensures))
