use Rattle.std.proofs.Common.{◌≡◌, map, take}
use Rattle.plain_machine.specs.Handling.{bound_params}
use Rattle.ek_types.specs.Listing.{items_of}
use Rattle.ek_types.specs.Property.{number_of}
use Rattle.ek_call.specs.Meaning.{view}
use Rattle.buffer_table.specs.Kept.{registers_of}
use Rattle.kernel_state.proofs.scopes.bound.Given as goal

abbrev pub invariant-loop-i : goal.invariant-loop-i
invariant-loop-i l = registers_of l.scope.items ≡ bound_params (take l.i (map number_of l.params)) (map view (items_of l.args))
