use Rattle.std.proofs.Common.{ap, sym, ◌∙◌}
use Rattle.kernel_steps.specs.Waits.{entering}
use Rattle.trace_check.specs.Meaning.{list_of}
use Rattle.trace_check.proofs.Listing.{once_put}
use Rattle.trace_check.proofs.waits.put_entry.Goals as goal

pub returns-in-Some : goal.returns-in-Some
returns-in-Some c = once_put c.put.result c.put.ensures.ok (λ put.
    put ∙ ap (λ e. entering e (list_of c.args.work.now)) (sym c.in-Some.is))
