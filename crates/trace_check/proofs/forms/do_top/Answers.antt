use Rattle.std.proofs.Common.{◌∷◌, ◌+◌, map, drop, ap, ◌∙◌, arith}
use Rattle.plain_machine.specs.Items.{Top, DoForm, Finish}
use Rattle.ek_types.specs.Listing.{items_of}
use Rattle.ek_call.specs.Meaning.{form_of, joined}
use Rattle.kernel_steps.proofs.Bodies.{next_form, no_form}
use Rattle.trace_check.specs.Meaning.{list_of}
use Rattle.trace_check.proofs.FormItems.{top_goes, top_ends}
use Rattle.trace_check.proofs.Listing.{once_put}
use Rattle.trace_check.proofs.forms.do_top.Goals as goal

pub returns-then-at-len : goal.returns-then-at-len
returns-then-at-len c = λ program s. once_put c.put.result c.put.ensures.ok (λ put.
    rw (no_form (items_of c.args.forms) c.args.at (omega arith), put ∙ ap (λ l. Finish 0 ∷ l) c.clear.ensures.work) (top_ends program s (list_of c.args.work.now)))

pub returns : goal.returns
returns c = λ program s. once_put c.put-2.result c.put-2.ensures.ok (λ put.
    let left = joined (drop (c.args.at + 1) (map form_of (items_of c.args.forms))) in
    rw (next_form (items_of c.args.forms) c.args.at c.at.result.now c.at.ensures, put ∙ ap (λ l. DoForm (form_of c.in_ok-form.form) ∷ l) c.put_back.ensures ∙ ap (λ f. DoForm f ∷ Top left ∷ list_of c.args.work.now) c.in_ok-form.ensures)
    (top_goes program s (list_of c.args.work.now) (form_of c.at.result.now) left))
