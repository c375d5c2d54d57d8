use Rattle.trace_check.proofs.Listing.{once_put}
use Rattle.trace_check.proofs.calls.change_quietly.Goals as goal

pub returns-clause-state : goal.returns-clause-state
returns-clause-state g c = once_put c.put_answer.result c.put_answer.ensures (λ put. c.in_ok-commit_quiet.ensures.ok)
