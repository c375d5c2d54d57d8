use Rattle.std.proofs.Common.{ap, sym, subst}
use Rattle.text_model.proofs.Cases.{IfOk-weaker}
use Rattle.prop_intervals.specs.Runs.{Run, CanCut}
use Rattle.prop_intervals.proofs.splice.spare.Goals as goal

pub returns : goal.returns
returns c =
    IfOk-weaker _ _ (λ n e. subst (CanCut c.args.tree.now c.args.at) (sym (ap (λ (r : Run). r.0) e)) c.in_ok-set.ensures) c.alone.result c.alone.ensures
