use Rattle.std.proofs.Common.{◌≡◌, map, drop}
use Rattle.std.specs.Prelude.{is_some}
use Rattle.ek_types.specs.Listing.{items_of}
use Rattle.ek_call.specs.Meaning.{view}
use Rattle.editor_model.specs.Values.{symbol_names, values}
use Rattle.prim_arguments.proofs.property_values.are_symbols.Given as goal

abbrev pub invariant-loop-i : goal.invariant-loop-i
invariant-loop-i l = is_some (symbol_names (values (drop l.i (map view (items_of l.items))))) ≡ is_some (symbol_names (values (map view (items_of l.items))))
