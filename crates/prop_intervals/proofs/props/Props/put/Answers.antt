use Rattle.std.proofs.Common.{ap, length, arith}
use Rattle.prop_intervals.proofs.SetLemmas.{length-sets_of}
use Rattle.prop_intervals.proofs.props.Props.put.Goals as goal

pub replace-requires-clause-within : goal.replace-requires-clause-within
replace-requires-clause-within c = omega (arith, length-sets_of c.self.inside.tree, ap length c.self.view_is)
