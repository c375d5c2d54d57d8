use Rattle.std.proofs.Common.{◌∙◌, sym, map, arith}
use Rattle.std.proofs.lemmas.List.{length-map}
use Rattle.ek_types.specs.Listing.{items_of}
use Rattle.ek_call.specs.Meaning.{view}
use Rattle.prim_arguments.proofs.Symbols.{listed}
use Rattle.prim_arguments.proofs.property_values.symbols_value.Goals as goal

pub returns-clause-value : goal.returns-clause-value
returns-clause-value c =
    listed (map view (items_of c.args.items.now)) _ (λ z. omega (arith, length-map (items_of c.args.items.now) view)) (sym c.are_symbols.ensures ∙ c.if-not-are_symbols.false) c.in_ok-symbols.ensures
