use Rattle.std.proofs.Common.{◌∷◌, map, ap, ◌∙◌}
use Rattle.plain_machine.specs.Items.{Body, Leave}
use Rattle.ek_types.specs.Listing.{items_of}
use Rattle.ek_call.specs.Meaning.{form_of, joined}
use Rattle.kernel_steps.specs.Blocks.{block_of}
use Rattle.trace_check.specs.Meaning.{list_of}
use Rattle.trace_check.proofs.FormItems.{block_opens}
use Rattle.trace_check.proofs.Listing.{once_put}
use Rattle.trace_check.proofs.forms.do_block.Goals as goal

pub returns : goal.returns
returns g c = λ program. once_put c.put.result c.put.ensures.ok (λ put.
    let known = g.M.Kernel.state c.args.kernel.now in
    let forms = joined (map form_of (items_of c.args.forms)) in
    rw (put ∙ ap (λ l. Body forms ∷ l) c.put_back.ensures ∙ ap (λ k. Body forms ∷ Leave k ∷ list_of c.args.work.now) c.in_ok-kept.ensures.kept)
    (block_opens program known (list_of c.args.work.now) (g.M.Kernel.state c.open.new.self) (block_of c.args.block) forms c.in_ok-kept.ensures.ok))
