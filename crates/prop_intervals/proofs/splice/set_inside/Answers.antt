use Rattle.std.proofs.Common.{subst, sym, arith}
use Rattle.text_model.proofs.Cases.{IfOk-weaker}
use Rattle.prop_intervals.specs.Runs.{CanCut}
use Rattle.prop_intervals.proofs.SetLemmas.{can_cut-found, can_cut-start, can_cut-end}
use Rattle.prop_intervals.proofs.splice.set_inside.Goals as goal
use Rattle.prop_intervals.proofs.splice.set_inside.Goals.{then-at-len+else-run-at, else-at-len}

pub returns-then-run-at : goal.returns-then-run-at
returns-then-run-at c =
    IfOk-weaker _ _ (λ set e. subst (CanCut c.args.tree.now c.args.at) (sym e) (can_cut-found c.args.tree.now c.args.at _ _ _ c.find-run.ensures.exact)) c.copy.result c.copy.ensures

pub returns : goal.returns
returns c = elim c.if-at-len.branch [
  | then-at-len+else-run-at w ↦ can_cut-start c.args.tree.now c.args.at _ c.empty.result _ _ w.find-run.ensures.exact (omega (arith, w.if-run-at.false))
  | else-at-len w ↦ can_cut-end c.args.tree.now c.args.at c.empty.result (omega (arith, w.if-at-len.false))
]
