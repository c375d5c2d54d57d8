use Rattle.std.proofs.Common.{◌∷◌, ap, ◌∙◌}
use Rattle.plain_machine.specs.Items.{Wait}
use Rattle.wait_loop.specs.KeptWaits.{noted}
use Rattle.process_table.specs.Table.{with_table}
use Rattle.host_link.specs.Meaning.{answer_of}
use Rattle.trace_check.specs.Meaning.{list_of, target_of}
use Rattle.trace_check.specs.Waits.{without_first}
use Rattle.trace_check.proofs.WaitItems.{heard_put}
use Rattle.trace_check.proofs.Listing.{once_put}
use Rattle.trace_check.proofs.waits.hear.Goals as goal

pub returns : goal.returns
returns g c = once_put c.put_entry.result c.put_entry.ensures (λ put.
    let known = g.M.Kernel.state c.args.kernel.now in
    let rest = list_of c.args.work.now in
    let target = target_of c.args.target in
    heard_put known (g.M.Kernel.state c.take_answer.new.self) c.args.waiting target c.args.p (answer_of c.args.answer.now) c.in_ok-heard.heard rest (list_of c.put_back.new.self) (list_of c.put_entry.new.work) c.in_ok-heard.ensures.ok
    (c.put_back.ensures ∙ ap (λ w. Wait w target ∷ rest) (c.note.ensures ∙ ap (noted c.args.p c.in_ok-heard.heard.bytes) (c.pass_first.ensures ∙ ap (λ l. without_first (with_table l) c.args.waiting) c.processes.ensures)))
    put)
