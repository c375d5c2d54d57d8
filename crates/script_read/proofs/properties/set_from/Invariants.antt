use Rattle.std.proofs.Common.{◌≡◌, ◌++◌, map, length}
use Rattle.ek_types.specs.Property.{pair_of}
use Rattle.script_read.specs.PropSets.{set_given}
use Rattle.script_read.proofs.properties.set_from.Given as goal

abbrev pub invariant-entries : goal.invariant-entries
invariant-entries l = map pair_of l.pairs.items ++ set_given l.left.entries ≡ set_given l.initial.left.entries

abbrev pub decreases-entries : goal.decreases-entries
decreases-entries l = length l.left.entries
