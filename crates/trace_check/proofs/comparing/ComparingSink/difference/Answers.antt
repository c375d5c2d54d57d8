use Rattle.std.proofs.Common.{◌≡◌, ◌+◌, subst, arith, inl, inr}
use Rattle.trace_check.specs.Comparing.{firsts, Compared, DiffersAt}
use Rattle.trace_check.proofs.Agreeing.{first_difference, no_difference, few_feeds}
use Rattle.trace_check.proofs.comparing.ComparingSink.difference.Goals as goal

pub overflow_add-result : goal.overflow_add-result
overflow_add-result c =
    let few = few_feeds c.self.inside.claimed.now (firsts c.self.inside.given.items) c.self.inside.at c.self.inside.feeds c.self.inside.differs c.self.invariant in
    omega (arith, few)

pub overflow_add-result-then-self-2 : goal.overflow_add-result-then-self-2
overflow_add-result-then-self-2 c =
    let few = few_feeds c.self.inside.claimed.now (firsts c.self.inside.given.items) c.self.inside.at c.self.inside.feeds c.self.inside.differs c.self.invariant in
    omega (arith, few)

pub returns-then-self-clause-some : goal.returns-then-self-clause-some
returns-then-self-clause-some c =
    subst (λ (v : Compared). DiffersAt (c.self.inside.feeds + 1) v.claimed v.given) c.self.view_is
    (first_difference c.self.inside.claimed.now (firsts c.self.inside.given.items) c.self.inside.at c.self.inside.feeds c.self.inside.differs c.self.invariant (inl c.if-self.true))

pub returns-then-self-2-clause-some : goal.returns-then-self-2-clause-some
returns-then-self-2-clause-some c =
    subst (λ (v : Compared). DiffersAt (c.self.inside.feeds + 1) v.claimed v.given) c.self.view_is
    (first_difference c.self.inside.claimed.now (firsts c.self.inside.given.items) c.self.inside.at c.self.inside.feeds c.self.inside.differs c.self.invariant (inr (omega (arith, c.if-self-2.true))))

pub returns-clause-none : goal.returns-clause-none
returns-clause-none c =
    subst (λ (v : Compared). v.claimed ≡ v.given) c.self.view_is
    (no_difference c.self.inside.claimed.now (firsts c.self.inside.given.items) c.self.inside.at c.self.inside.feeds c.self.inside.differs c.self.invariant c.if-self.false (omega (arith, c.if-self-2.false)))
