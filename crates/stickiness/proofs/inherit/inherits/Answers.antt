use Rattle.std.specs.Prelude.{option_map}
use Rattle.stickiness.proofs.Giving.{given_before, given_after}
use Rattle.stickiness.proofs.inherit.inherits.Goals as goal

pub returns-then-first : goal.returns-then-first
returns-then-first c =
    given_before (option_map (λ s. s.now) c.args.before) (option_map (λ s. s.now) c.args.after) c.args.name.0 c.gives-first.result
    c.gives-first.ensures.ordered c.gives-first.ensures.exact c.if-first.true

pub returns-else-first : goal.returns-else-first
returns-else-first c =
    given_after (option_map (λ s. s.now) c.args.before) (option_map (λ s. s.now) c.args.after) c.args.name.0 c.gives-first.result c.gives.result
    c.gives-first.ensures.ordered c.gives-first.ensures.exact c.if-first.false c.gives.ensures.exact
