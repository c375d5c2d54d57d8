use Rattle.text_model.proofs.Cases.{IfOk-weaker}
use Rattle.prim_changes.proofs.Sets.{one_put}
use Rattle.prim_changes.proofs.inserts.with_one.Goals as goal

pub returns : goal.returns
returns c =
    IfOk-weaker _ _ (λ s e. one_put c.args.more.now c.args.set s c.args.i _ _ c.requires.proper c.at.ensures e) c.with.result c.with.ensures
