use Rattle.std.proofs.Common.{◌≡◌, map, drop}
use Rattle.text_model.specs.Properties.{get}
use Rattle.ek_types.specs.Property.{pair_of}
use Rattle.ek_types.proofs.prop_set.PropSet.get.Given as goal

abbrev pub invariant-loop-pair : goal.invariant-loop-pair
invariant-loop-pair l = get (map pair_of l.pair-items) l.name.0 ≡ get (map pair_of (drop l.pair-index l.pair-items)) l.name.0
