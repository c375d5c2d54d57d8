use Rattle.std.proofs.Common.{◌≡◌, ◌*◌, ◌≤◌, map, drop, option_map, length}
use Rattle.ek_types.specs.Listing.{items_of}
use Rattle.ek_call.specs.Meaning.{view}
use Rattle.editor_model.specs.Values.{pairs_of}
use Rattle.prim_arguments.specs.PropertyArguments.{backwards}
use Rattle.prim_arguments.proofs.property_lists.pairs_in.Given as goal

abbrev pub invariant-pairs : goal.invariant-pairs
invariant-pairs l = record {
  read : option_map (λ ps. backwards (items_of ps)) l.list ≡ pairs_of (drop (2 * l.n) (map view (items_of l.words)));
  within : 2 * l.n ≤ length (items_of l.words);
}

abbrev pub decreases-pairs : goal.decreases-pairs
decreases-pairs l = l.n
