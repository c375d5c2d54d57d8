use Rattle.std.proofs.Common.{ap, ◌∙◌}
use Rattle.undo_list.proofs.Walking.{pass-planned}
use Rattle.undo_list.proofs.undo.Undo.pass.Goals as goal

pub returns-clause-groups : goal.returns-clause-groups
returns-clause-groups c = λ groups min max some h. ap (λ r. record r.state { pending_below = c.args.plan.now.last }) c.self.view_is ∙ pass-planned groups min max c.args.self.now.state c.args.plan.now some h
