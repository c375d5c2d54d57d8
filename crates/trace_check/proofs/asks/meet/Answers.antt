use Rattle.std.proofs.Common.{ap, sym, refl, inl, inr, ◌∙◌}
use Rattle.std.specs.Prelude.{option_map}
use Rattle.host_link.specs.Meaning.{exchange_of}
use Rattle.trace_check.proofs.asks.meet.Goals as goal

pub returns-then-not-is : goal.returns-then-not-is
returns-then-not-is c = (exchange_of c.in-Some.exchange.now, ap (option_map (λ x. exchange_of x.now)) c.in-Some.is, inl (sym c.is.ensures ∙ c.if-not-is.true))

pub returns-then-not-allows : goal.returns-then-not-allows
returns-then-not-allows c = (exchange_of c.in-Some.exchange.now, ap (option_map (λ x. exchange_of x.now)) c.in-Some.is, inr (sym c.allows.ensures ∙ c.if-not-allows.true))

pub returns : goal.returns
returns c = (exchange_of c.in-Some.exchange.now, ap (option_map (λ x. exchange_of x.now)) c.in-Some.is, sym c.is.ensures ∙ c.if-not-is.false, sym c.allows.ensures ∙ c.if-not-allows.false, refl)
