use Rattle.std.proofs.Common.{ap, sym, ◌∙◌}
use Rattle.std.specs.Prelude.{option_map, is_some}
use Rattle.ek_types.specs.Property.{prop_of}
use Rattle.stickiness.proofs.Giving.{given, kept_back, mapped_some}
use Rattle.stickiness.proofs.inherit.gives.Goals as goal

pub returns-then-offers-clause-exact : goal.returns-then-offers-clause-exact
returns-then-offers-clause-exact c =
    given c.args.side _ c.in-Some.set.now c.args.name.0 c.offers.result c.is_some.result (ap (option_map (λ s. s.now)) c.in-Some.is) c.offers.ensures c.if-offers.true
    (c.is_some.ensures ∙ sym (mapped_some (λ v. prop_of v.now) c.get.result) ∙ ap is_some c.get.ensures)

pub returns-else-offers-clause-exact : goal.returns-else-offers-clause-exact
returns-else-offers-clause-exact c =
    kept_back c.args.side _ c.in-Some.set.now c.args.name.0 c.offers.result (ap (option_map (λ s. s.now)) c.in-Some.is) c.offers.ensures c.if-offers.false
