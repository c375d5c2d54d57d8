use Rattle.std.proofs.Common.{drop, option_map, ◌∷◌, map, ap, ◌∙◌}
use Rattle.plain_machine.specs.Items.{Native}
use Rattle.ek_types.specs.Listing.{items_of}
use Rattle.ek_call.specs.Faults.{fault_of}
use Rattle.ek_types.specs.Property.{number_of}
use Rattle.ek_call.specs.declared.reply.Reply.TheVariants as reply
use Rattle.ek_call.specs.Meaning.{form_of, joined, reply_of, view}
use Rattle.prim_changes.specs.Meaning.{change_of}
use Rattle.kernel_steps.specs.Blocks.{kept_as}
use Rattle.kernel_steps.specs.Handlers.{kind_of}
use Rattle.kernel_steps.proofs.Evaluating.{map_more}
use Rattle.trace_check.specs.Meaning.{list_of}
use Rattle.trace_check.proofs.Dropping.{top_stays, native_replied, exit_faulted, block_restored, commit_dropped, others_go, other_dropped}
use Rattle.trace_check.proofs.replies.drop_item.Goals as goal

pub returns-in-Top-clause-drops : goal.returns-in-Top-clause-drops
returns-in-Top-clause-drops g c = rw c.in-Top.is (top_stays (fault_of c.args.fault) (g.M.Kernel.state c.args.kernel.now) (list_of c.args.work.now) (list_of c.put_back.new.self) (joined (drop c.in-Top.at (map form_of (items_of c.in-Top.forms)))) c.put_back.ensures)

pub returns-in-Called-clause-drops : goal.returns-in-Called-clause-drops
returns-in-Called-clause-drops g c =
    let args = map view (items_of c.in-Called.args) in
    let past = map reply_of (items_of c.in-Called.past) in
    let rest = list_of c.args.work.now in
    rw c.in-Called.is (native_replied (fault_of c.args.fault) (g.M.Kernel.state c.args.kernel.now) rest (list_of c.put_back-in-Called.new.self) c.in-Called.native args past
    (c.put_back-in-Called.ensures ∙ ap (λ l. Native c.in-Called.native args l ∷ rest) (ap (map reply_of) c.in_ok-push-in-Called.ensures.ok ∙ map_more reply_of (items_of c.in-Called.past) (reply.Fault c.args.fault))))

pub returns-in-Exit-clause-drops : goal.returns-in-Exit-clause-drops
returns-in-Exit-clause-drops g c = rw c.in-Exit.is (exit_faulted (fault_of c.args.fault) (g.M.Kernel.state c.args.kernel.now) (list_of c.args.work.now) (list_of c.put_back-in-Exit.new.self) (kind_of c.in-Exit.kind) (option_map number_of c.in-Exit.handler) c.in-Exit.current c.in-Exit.faulted c.put_back-in-Exit.ensures)

pub returns-in-Leave-clause-drops : goal.returns-in-Leave-clause-drops
returns-in-Leave-clause-drops g c = rw c.in-Leave.is (block_restored (fault_of c.args.fault) (g.M.Kernel.state c.args.kernel.now) (g.M.Kernel.state c.restore.new.self) (list_of c.args.work.now) (kept_as c.in-Leave.kept) c.restore.ensures)

pub returns-in-CommitChange-clause-drops : goal.returns-in-CommitChange-clause-drops
returns-in-CommitChange-clause-drops g c = rw c.in-CommitChange.is (commit_dropped (fault_of c.args.fault) (g.M.Kernel.state c.args.kernel.now) (g.M.Kernel.state c.forget_kept.new.self) (list_of c.args.work.now) (change_of c.in-CommitChange.field-0) c.forget_kept.ensures)

pub returns-clause-drops : goal.returns-clause-drops
returns-clause-drops g c =
    let f = fault_of c.args.fault in
    let rest = list_of c.args.work.now in
    other_dropped c.args.item f (g.M.Kernel.state c.args.kernel.now) rest (others_go c.args.item c.in_default.not-Top c.in_default.not-Called c.in_default.not-Exit c.in_default.not-Leave c.in_default.not-CommitChange f rest)
