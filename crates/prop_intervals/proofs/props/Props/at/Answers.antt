use Rattle.std.proofs.Common.{ap, length, arith}
use Rattle.prop_intervals.proofs.SetLemmas.{length-sets_of, get_found}
use Rattle.prop_intervals.proofs.props.Props.at.Goals as goal

pub find-requires : goal.find-requires
find-requires c = omega (arith, length-sets_of c.self.inside.tree, ap length c.self.view_is)

pub returns-clause-exact : goal.returns-clause-exact
returns-clause-exact c = rw (← c.self.view_is) (get_found c.self.inside.tree c.args.i _ _ _ c.find.ensures.exact)
