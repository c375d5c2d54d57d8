use Rattle.std.proofs.Common.{◌≡◌, take}
use Rattle.ek_types.specs.Listing.{items_of}
use Rattle.editor_model.specs.PropertyCalls.{set_of_pairs}
use Rattle.prim_arguments.specs.PropertyArguments.{backwards}
use Rattle.prim_arguments.proofs.property_lists.set_of_pairs.Given as goal

abbrev pub invariant-loop-i : goal.invariant-loop-i
invariant-loop-i l = l.set ≡ set_of_pairs (backwards (take l.i (items_of l.list)))
