use Rattle.std.proofs.Common.{◌≡◌, ◌+◌, ◌*◌, length, map, drop}
use Rattle.editor_model.specs.Values.{equal_each, values}
use Rattle.ek_types.specs.Listing.{items_of}
use Rattle.ek_call.specs.Meaning.{view}
use Rattle.kernel_state.proofs.equal.+equal.Given as goal

abbrev pub invariant-each_equal-loop-i : goal.invariant-each_equal-loop-i
invariant-each_equal-loop-i l = record {
  same : equal_each (values (drop l.i (map view (items_of l.a)))) (values (drop l.i (map view (items_of l.b)))) ≡ equal_each (values (map view (items_of l.a))) (values (map view (items_of l.b)));
  size : length (items_of l.a) ≡ length (items_of l.b);
}

abbrev pub decreases-are_equal : goal.decreases-are_equal
decreases-are_equal l = goal.size-are_equal l * 2

abbrev pub decreases-each_equal : goal.decreases-each_equal
decreases-each_equal l = goal.size-each_equal l * 2 + 1
