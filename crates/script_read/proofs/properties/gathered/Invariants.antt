use Rattle.std.proofs.Common.{◌≡◌, ◌≤◌, ◌*◌, map, drop, length, Some}
use Rattle.ek_types.specs.Listing.{items_of}
use Rattle.ek_call.specs.Meaning.{view}
use Rattle.script_read.specs.PropStrings.{Named, named_of}
use Rattle.script_read.specs.PropSets.{Gathers}
use Rattle.script_read.proofs.properties.gathered.Given as goal

abbrev pub invariant-pairs : goal.invariant-pairs
invariant-pairs l = record {
  within : 2 * l.left ≤ length (items_of l.list);
  so_far : (named : Named) × (named_of (drop (2 * l.left) (map view (items_of l.list))) ≡ Some named) × Gathers l.given.entries named;
}

abbrev pub decreases-pairs : goal.decreases-pairs
decreases-pairs l = l.left
