use Rattle.std.proofs.Common.{◌≡◌, ◌+◌, ◌-◌, ◌++◌, ap, ◌∙◌, length, take, drop, arith}
use Rattle.std.specs.Prelude.{replicate}
use Rattle.prop_intervals.specs.Runs.{sets_of}
use Rattle.prop_intervals.specs.Sets.{sets_in, together}
use Rattle.prop_intervals.proofs.SetLemmas.{length-sets_of, apart-grown, sets_of-grown, set_at-found, get_found, grown_behind}
use Rattle.prop_intervals.proofs.props.Props.grow.Goals as goal

pub invariant_of-self : goal.invariant_of-self
invariant_of-self c = rw c.grow.ensures (apart-grown c.args.at c.args.n c.self.inside.tree c.self.invariant)

pub returns-then-are_all : goal.returns-then-are_all
returns-then-are_all c =
    let sets = sets_of c.self.inside.tree in
    let all : sets_in (together c.args.with.now) ≡ replicate c.args.n c.find.result.set.now = rw c.requires.count (c.are_all.ensures c.if-are_all.true) in
    rw (← c.self.view_is, c.grow.ensures, all)
    (sets_of-grown c.args.at c.args.n c.self.inside.tree c.find.result.set.now (omega arith) (set_at-found c.self.inside.tree c.args.at _ _ _ c.find.ensures.exact))

pub find-requires-then-at-gt0 : goal.find-requires-then-at-gt0
find-requires-then-at-gt0 c = omega (arith, length-sets_of c.self.inside.tree, ap length c.self.view_is)

pub invariant_of-self-then-are_all-2 : goal.invariant_of-self-then-are_all-2
invariant_of-self-then-are_all-2 c = rw c.grow-then-are_all-2.ensures (apart-grown (c.args.at - 1) c.args.n c.self.inside.tree c.self.invariant)

pub returns-then-are_all-2 : goal.returns-then-are_all-2
returns-then-are_all-2 c =
    let sets = sets_of c.self.inside.tree in
    let found = c.find-then-at-gt0.ensures.exact in
    let set = c.find-then-at-gt0.result.set.now in
    let n = c.args.n in
    let all : sets_in (together c.args.with.now) ≡ replicate n set = rw c.requires.count (c.are_all-then-at-gt0.ensures c.if-are_all-2.true) in
    let place : c.args.at - 1 + 1 ≡ c.args.at = omega arith in
    rw (← c.self.view_is, c.grow-then-are_all-2.ensures, all)
    (sets_of-grown (c.args.at - 1) n c.self.inside.tree set (omega (arith, length-sets_of c.self.inside.tree, ap length c.self.view_is)) (set_at-found c.self.inside.tree (c.args.at - 1) _ _ _ found)
    ∙ grown_behind sets (c.args.at - 1) n set (get_found c.self.inside.tree (c.args.at - 1) _ _ _ found) ∙ ap (λ p. take p sets ++ (replicate n set ++ drop p sets)) place)
