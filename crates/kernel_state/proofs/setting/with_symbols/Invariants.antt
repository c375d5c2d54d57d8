use Rattle.std.proofs.Common.{◌≡◌, ◌++◌, map, take}
use Rattle.editor_model.specs.Values.{Sym}
use Rattle.ek_types.specs.Listing.{items_of}
use Rattle.ek_types.specs.Property.{number_of}
use Rattle.ek_call.specs.Meaning.{view}
use Rattle.kernel_state.proofs.setting.with_symbols.Given as goal

abbrev pub invariant-loop-name : goal.invariant-loop-name
invariant-loop-name l = map view (items_of l.all) ≡ map view (items_of l.fn.values) ++ map Sym (map number_of (take l.name-index l.fn.names))
