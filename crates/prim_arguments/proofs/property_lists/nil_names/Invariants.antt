use Rattle.std.proofs.Common.{◌≡◌, ◌≤◌, ◌++◌, map, take, length}
use Rattle.ek_types.specs.Listing.{items_of}
use Rattle.ek_types.specs.Property.{number_of}
use Rattle.editor_model.specs.PropertyCalls.{nil_names}
use Rattle.prim_arguments.specs.PropertyArguments.{backwards}
use Rattle.prim_arguments.proofs.property_lists.nil_names.Given as goal

abbrev pub invariant-pairs : goal.invariant-pairs
invariant-pairs l = record {
  read : map number_of (items_of l.names) ++ nil_names (backwards (take l.i (items_of l.list))) ≡ nil_names (backwards (items_of l.list));
  within : l.i ≤ length (items_of l.list);
}

abbrev pub decreases-pairs : goal.decreases-pairs
decreases-pairs l = l.i
