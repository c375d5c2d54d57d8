use Rattle.std.proofs.Common.{◌≡◌, ap, subst, length, arith}
use Rattle.prop_intervals.specs.Sets.{run_end}
use Rattle.prop_intervals.proofs.SetLemmas.{length-sets_of, run_end_found, in_run, behind_run}
use Rattle.prop_intervals.proofs.props.Props.run_end.Goals as goal

pub find-requires : goal.find-requires
find-requires c = omega (arith, length-sets_of c.self.inside.tree, ap length c.self.view_is)

pub returns-clause-exact : goal.returns-clause-exact
returns-clause-exact c = subst (λ s. c.find.result.end ≡ run_end c.args.i s) c.self.view_is (run_end_found c.self.inside.tree c.args.i _ _ _ c.self.invariant c.find.ensures.exact)

pub returns-clause-behind : goal.returns-clause-behind
returns-clause-behind c = c.find.ensures.exact.ends

pub returns-clause-equal : goal.returns-clause-equal
returns-clause-equal c = λ j l m. rw (← c.self.view_is) (in_run c.self.inside.tree c.args.i j _ _ _ c.find.ensures.exact l m)

pub returns-clause-other : goal.returns-clause-other
returns-clause-other c = rw (← c.self.view_is) (behind_run c.self.inside.tree c.args.i _ _ _ c.self.invariant c.find.ensures.exact)
