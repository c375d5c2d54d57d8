use Rattle.std.proofs.Common.{◌≡◌, ◌+◌, ◌-◌, ◌++◌, ap, ◌∙◌, take, drop, arith}
use Rattle.prop_intervals.specs.Runs.{sets_of, IsPartOfRun}
use Rattle.prop_intervals.proofs.SetLemmas.{apart-shrunk, sets_of-shrunk, part_found}
use Rattle.prop_intervals.proofs.props.Props.shrink.Goals as goal

pub shrink-requires : goal.shrink-requires
shrink-requires c = part_found c.self.inside.tree c.args.from (c.args.to - c.args.from) _ _ _ c.find-run.ensures.exact (omega arith) (omega arith)

pub invariant_of-self : goal.invariant_of-self
invariant_of-self c =
    let part : IsPartOfRun c.args.from (c.args.to - c.args.from) c.self.inside.tree = part_found c.self.inside.tree c.args.from (c.args.to - c.args.from) _ _ _ c.find-run.ensures.exact (omega arith) (omega arith) in
    rw c.shrink.ensures (apart-shrunk c.args.from (c.args.to - c.args.from) c.self.inside.tree part c.self.invariant)

pub returns : goal.returns
returns c =
    let part : IsPartOfRun c.args.from (c.args.to - c.args.from) c.self.inside.tree = part_found c.self.inside.tree c.args.from (c.args.to - c.args.from) _ _ _ c.find-run.ensures.exact (omega arith) (omega arith) in
    let sets = sets_of c.self.inside.tree in
    let place : c.args.from + (c.args.to - c.args.from) ≡ c.args.to = omega arith in
    rw (← c.self.view_is, c.shrink.ensures)
    (sets_of-shrunk c.args.from (c.args.to - c.args.from) c.self.inside.tree part ∙ ap (λ p. take c.args.from sets ++ drop p sets) place)
