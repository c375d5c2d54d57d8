use Rattle.std.proofs.Common.{◌∙◌}
use Rattle.text_model.proofs.Cases.{IfOk-weaker}
use Rattle.stickiness.specs.Offers.{offers}
use Rattle.stickiness.specs.declared.side.Side.TheVariants.{After}
use Rattle.stickiness.proofs.Steps.{put_into_empty}
use Rattle.stickiness.proofs.inherit.offered_by_after.Goals as goal

pub returns-in-Some : goal.returns-in-Some
returns-in-Some c =
    let set = c.in-Some.set.now in
    rw c.in-Some.is (IfOk-weaker _ _ (λ s e. e ∙ rw c.empty-nothing.ensures (put_into_empty (λ p. offers After set p.0) set c.with_offered.ensures.ordered)) c.with_offered.result c.with_offered.ensures.exact)
