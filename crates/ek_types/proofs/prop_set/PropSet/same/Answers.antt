use Rattle.std.proofs.Common.{sym, ◌∙◌}
use Rattle.std.specs.Prelude.{◌==◌, ◌&&◌}
use Rattle.text_model.specs.Properties.{same_value}
use Rattle.ek_types.proofs.InOrder.{differ_at, agree_at}
use Rattle.ek_types.proofs.prop_set.PropSet.same.Goals as goal

pub returns-then-not-same_pair : goal.returns-then-not-same_pair
returns-then-not-same_pair c =
    differ_at (λ p q. (p.0 == q.0) && same_value p.1 q.1) c.args.self.now c.args.other.now c.loop-i.i _ _ _ c.at.ensures c.at-in-loop-i.ensures (sym c.same_pair.ensures ∙ c.if-not-same_pair.true) c.loop-i.invariant.0

pub loop-i-preserved : goal.loop-i-preserved
loop-i-preserved c =
    (agree_at (λ p q. (p.0 == q.0) && same_value p.1 q.1) c.args.self.now c.args.other.now c.loop-i.i _ _ _ c.at.ensures c.at-in-loop-i.ensures (sym c.same_pair.ensures ∙ c.if-not-same_pair.false) c.loop-i.invariant.0, c.loop-i.invariant.1)
