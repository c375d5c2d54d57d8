use Rattle.std.proofs.Common.{◌≡◌, map, take}
use Rattle.editor_model.specs.Values.{Sym}
use Rattle.ek_types.specs.Listing.{items_of}
use Rattle.ek_types.specs.Property.{number_of}
use Rattle.ek_call.specs.Meaning.{view}
use Rattle.prim_arguments.proofs.values.symbols.Given as goal

abbrev pub invariant-loop-i : goal.invariant-loop-i
invariant-loop-i l = map view (items_of l.values) ≡ map Sym (take l.i (map number_of (items_of l.names)))
