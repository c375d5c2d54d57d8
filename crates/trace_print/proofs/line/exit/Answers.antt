use Rattle.std.proofs.Common.{sym, arith, ◌∙◌, option_map}
use Rattle.ek_types.specs.Property.{number_of}
use Rattle.sink_printer.proofs.Printing.{prints_then, prints_same, written}
use Rattle.trace_print.proofs.Telling.{exit_told}
use Rattle.trace_print.proofs.line.exit.Goals as goal

pub returns : goal.returns
returns g c = λ s known.
    let said = prints_then c.margin.ensures (prints_then (prints_then c.put.ensures c.handler_word.ensures) c.put_byte.ensures) in
    let same = sym (said.same ∙ c.new-out.ensures.same) in
    written c.new-out.ensures.sink c.new-out.ensures.fresh c.new-out.ensures.empty (grind (arith, same))
    (prints_same (exit_told c.args.names.now.symbols.now s c.args.depth (option_map number_of c.args.handler)) said) c.finish.ensures
