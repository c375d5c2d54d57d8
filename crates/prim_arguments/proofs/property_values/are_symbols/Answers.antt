use Rattle.std.proofs.Common.{◌∙◌, ap, sym, map, option_map, arith}
use Rattle.std.proofs.lemmas.Option.{slice_get-map}
use Rattle.std.proofs.lemmas.List.{length-map}
use Rattle.ek_types.specs.Listing.{items_of}
use Rattle.ek_call.specs.Meaning.{view}
use Rattle.prim_arguments.proofs.Symbols.{symbol_met, other_met, all_met}
use Rattle.prim_arguments.proofs.property_values.are_symbols.Goals as goal

pub returns-then-not-is_symbol : goal.returns-then-not-is_symbol
returns-then-not-is_symbol c =
    let items = items_of c.args.items.now in
    other_met (map view items) c.loop-i.i _ _ (slice_get-map view items c.loop-i.i ∙ ap (option_map view) c.at.ensures) (sym c.is_symbol.ensures ∙ c.if-not-is_symbol.true) c.loop-i.invariant

pub loop-i-preserved : goal.loop-i-preserved
loop-i-preserved c =
    let items = items_of c.args.items.now in
    symbol_met (map view items) c.loop-i.i _ _ (slice_get-map view items c.loop-i.i ∙ ap (option_map view) c.at.ensures) (sym c.is_symbol.ensures ∙ c.if-not-is_symbol.false) c.loop-i.invariant

pub returns : goal.returns
returns c = all_met (map view (items_of c.args.items.now)) c.loop-i.i _ (omega (arith, length-map (items_of c.args.items.now) view)) c.loop-i.invariant
