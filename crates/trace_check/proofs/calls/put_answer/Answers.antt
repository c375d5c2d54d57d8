use Rattle.std.proofs.Common.{◌∷◌, ap, ◌∙◌}
use Rattle.plain_machine.specs.Items.{GiveAnswer}
use Rattle.trace_check.specs.Meaning.{list_of, target_of}
use Rattle.trace_check.proofs.Listing.{once_put}
use Rattle.trace_check.proofs.calls.put_answer.Goals as goal

pub returns : goal.returns
returns c = once_put c.put.result c.put.ensures.ok (λ put. put ∙ ap (λ v. GiveAnswer v (target_of c.args.target) ∷ list_of c.args.work.now) c.in_ok-value.ensures)
