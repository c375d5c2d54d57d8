use Rattle.std.proofs.Common.{◌∙◌, ap, map, option_map, arith}
use Rattle.std.proofs.lemmas.Option.{slice_get-map}
use Rattle.std.proofs.lemmas.List.{length-map}
use Rattle.ek_types.specs.Listing.{items_of}
use Rattle.ek_call.specs.Meaning.{view}
use Rattle.prim_arguments.proofs.Symbols.{name_more, names_all}
use Rattle.prim_arguments.proofs.property_values.symbols.Goals as goal

pub loop-i-preserved : goal.loop-i-preserved
loop-i-preserved c =
    let items = items_of c.args.items.now in
    name_more (map view items) c.loop-i.i _ _ _ _ (slice_get-map view items c.loop-i.i ∙ ap (option_map view) c.at.ensures) c.in_ok-push_symbol.ensures c.requires c.loop-i.invariant

pub returns : goal.returns
returns c = names_all (map view (items_of c.args.items.now)) c.loop-i.i _ _ (omega (arith, length-map (items_of c.args.items.now) view)) c.loop-i.invariant
