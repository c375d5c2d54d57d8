use Rattle.std.proofs.Common.{◌∷◌, ap, ◌∙◌}
use Rattle.plain_machine.specs.Items.{MakeChange}
use Rattle.prim_changes.specs.Meaning.{change_of}
use Rattle.trace_check.proofs.Listing.{once_put}
use Rattle.trace_check.proofs.calls.put_change.Goals as goal

pub returns : goal.returns
returns c = once_put c.put.result c.put.ensures.ok (λ put. put ∙ ap (λ l. MakeChange (change_of c.args.change) ∷ l) c.in_ok-put_answer.ensures)
