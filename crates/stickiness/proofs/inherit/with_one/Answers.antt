use Rattle.std.proofs.Common.{sym, ◌∙◌}
use Rattle.text_model.proofs.Cases.{IfOk-weaker}
use Rattle.stickiness.specs.Offers.{offers}
use Rattle.stickiness.proofs.Steps.{one_put, one_left_out}
use Rattle.stickiness.proofs.inherit.with_one.Goals as goal

pub returns-then-offers : goal.returns-then-offers
returns-then-offers c =
    IfOk-weaker _ _
    (λ s e. one_put (λ p. offers c.args.side c.args.set.now p.0) c.args.set.now c.args.onto s c.args.i _ _ c.requires.proper c.at.ensures (sym c.offers.ensures ∙ c.if-offers.true) e)
    c.with.result c.with.ensures

pub returns-else-offers : goal.returns-else-offers
returns-else-offers c =
    one_left_out (λ p. offers c.args.side c.args.set.now p.0) c.args.set.now c.args.onto c.args.i _ _ c.at.ensures (sym c.offers.ensures ∙ c.if-offers.false)
