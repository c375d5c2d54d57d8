use Rattle.ek_types.proofs.PropSets.{proper-without}
use Rattle.ek_types.proofs.prop_set.PropSet.without.Goals as goal

pub invariant_of-result : goal.invariant_of-result
invariant_of-result c = rw c.take_out.ensures (proper-without _ _ c.self.invariant)
