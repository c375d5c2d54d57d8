use Rattle.std.proofs.Common.{◌≡◌, ◌++◌, map, take}
use Rattle.ek_types.specs.Property.{pair_of}
use Rattle.ek_types.proofs.prop_set.add_copies.Given as goal

abbrev pub invariant-loop-name : goal.invariant-loop-name
invariant-loop-name l = map pair_of l.pairs.items ≡ map pair_of l.initial.pairs.items ++ map pair_of (take l.name-index l.from)
