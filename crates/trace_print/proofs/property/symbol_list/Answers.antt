use Rattle.std.proofs.Common.{◌∙◌, ap, arith, map}
use Rattle.std.proofs.lemmas.List.{length-map}
use Rattle.std.specs.Option.{option_map}
use Rattle.std.proofs.lemmas.Option.{slice_get-map}
use Rattle.plain_machine.specs.Lines.{symbol_name}
use Rattle.ek_types.specs.Listing.{items_of}
use Rattle.ek_types.specs.Property.{number_of}
use Rattle.sink_printer.proofs.Printing.{prints_then, prints_same, prints_nothing}
use Rattle.trace_print.proofs.Spaced.{spaced_item, spaced_all}
use Rattle.trace_print.proofs.property.symbol_list.Goals as goal

pub loop-i-init : goal.loop-i-init
loop-i-init g c = prints_nothing

pub loop-i-preserved : goal.loop-i-preserved
loop-i-preserved g c =
    let found = slice_get-map number_of (items_of c.args.list.now) c.loop-i.i ∙ ap (option_map number_of) c.at.ensures in
    prints_same (spaced_item (symbol_name c.args.symbols.now) (map number_of (items_of c.args.list.now)) c.loop-i.i _ found) (prints_then c.loop-i.invariant (prints_then c.gap.ensures c.symbol.ensures))

pub returns : goal.returns
returns g c =
    let count = length-map (items_of c.args.list.now) number_of in
    prints_same (spaced_all (symbol_name c.args.symbols.now) (map number_of (items_of c.args.list.now)) c.loop-i.i (omega (arith, count, c.len-i-end.ensures, c.loop-i-test.false))) c.loop-i.invariant
