use Rattle.std.proofs.Common.{sym, arith, ◌∙◌, option_map, map}
use Rattle.ek_types.specs.Listing.{items_of}
use Rattle.ek_types.specs.Property.{number_of}
use Rattle.ek_call.specs.Meaning.{view}
use Rattle.trace_print.specs.Kinds.{kind_of}
use Rattle.sink_printer.proofs.Printing.{prints_then, prints_same, written}
use Rattle.trace_print.proofs.Telling.{entry_told}
use Rattle.trace_print.proofs.line.entry.Goals as goal

pub returns : goal.returns
returns g c = λ n s known.
    let said =
    prints_then c.margin.ensures (prints_then (prints_then c.put.ensures (prints_then (c.kind_word.ensures n) (prints_then c.put_byte.ensures (prints_then c.handler_word.ensures c.arguments.ensures)))) c.put_byte-2.ensures) in
    let same = sym (said.same ∙ c.new-out.ensures.same) in
    written c.new-out.ensures.sink c.new-out.ensures.fresh c.new-out.ensures.empty (grind (arith, same))
    (prints_same (entry_told c.args.names.now s known c.args.names.now.symbols.now c.args.depth (kind_of c.args.kind n) (option_map number_of c.args.handler) (map view (items_of c.args.args.now))) said) c.finish.ensures
