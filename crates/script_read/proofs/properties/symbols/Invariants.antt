use Rattle.std.proofs.Common.{◌≡◌, map, drop}
use Rattle.editor_model.specs.Values.{values, symbol_names}
use Rattle.ek_types.specs.Listing.{items_of}
use Rattle.ek_types.specs.Property.{number_of}
use Rattle.ek_call.specs.Meaning.{view}
use Rattle.script_read.proofs.Gathering.{names_before}
use Rattle.script_read.proofs.properties.symbols.Given as goal

abbrev pub invariant-loop-i : goal.invariant-loop-i
invariant-loop-i l = symbol_names (values (map view (items_of l.list))) ≡ names_before (map number_of (items_of l.names)) (symbol_names (values (map view (drop l.i (items_of l.list)))))
