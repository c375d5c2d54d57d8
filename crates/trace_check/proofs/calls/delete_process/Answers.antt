use Rattle.std.proofs.Common.{◌∷◌, map, ap, ◌∙◌}
use Rattle.plain_machine.specs.Items.{Delete, GiveAnswer}
use Rattle.ek_types.specs.Listing.{items_of}
use Rattle.ek_call.specs.Meaning.{view}
use Rattle.kernel_steps.proofs.Shapes.{nil_is}
use Rattle.trace_check.specs.Meaning.{list_of, target_of}
use Rattle.trace_check.proofs.CallItems.{delete_put}
use Rattle.trace_check.proofs.Listing.{once_put}
use Rattle.trace_check.proofs.calls.delete_process.Goals as goal

pub returns : goal.returns
returns g c = once_put c.put-2.result c.put-2.ensures.ok (λ put.
    let rest = list_of c.args.work.now in
    delete_put (g.P.Program.meant c.args.program.now) (g.M.Kernel.state c.args.kernel.now) (map view (items_of c.args.args.now)) (target_of c.args.target) rest c.process_given-process.result (list_of c.put-2.new.self) c.requires c.process_given-process.ensures
    (put ∙ ap (λ l. Delete c.process_given-process.result ∷ l) (c.in_ok-put.ensures.ok ∙ ap (λ v. GiveAnswer v (target_of c.args.target) ∷ rest) nil_is)))
