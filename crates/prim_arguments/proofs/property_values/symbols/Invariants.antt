use Rattle.std.proofs.Common.{◌≡◌, ◌++◌, map, drop}
use Rattle.std.specs.Prelude.{option_map}
use Rattle.ek_types.specs.Listing.{items_of}
use Rattle.ek_types.specs.Property.{number_of}
use Rattle.ek_call.specs.Meaning.{view}
use Rattle.editor_model.specs.Values.{symbol_names, values}
use Rattle.prim_arguments.proofs.property_values.symbols.Given as goal

abbrev pub invariant-loop-i : goal.invariant-loop-i
invariant-loop-i l = option_map (λ rest. map number_of (items_of l.names) ++ rest) (symbol_names (values (drop l.i (map view (items_of l.items))))) ≡ symbol_names (values (map view (items_of l.items)))
