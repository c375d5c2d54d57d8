use Rattle.std.proofs.Common.{◌∷◌, ◌+◌, map, drop, length, ap, ◌∙◌, arith}
use Rattle.std.proofs.lemmas.List.{length-map, drop_all}
use Rattle.std.specs.Prelude.{Some}
use Rattle.plain_machine.specs.Items.{Enter, Hooks}
use Rattle.text_model.proofs.Lists.{drop_at, mapped_at}
use Rattle.ek_types.specs.Listing.{items_of}
use Rattle.ek_types.specs.Property.{number_of}
use Rattle.ek_call.specs.Meaning.{view}
use Rattle.kernel_steps.specs.Handlers.{kind_of}
use Rattle.trace_check.specs.Meaning.{list_of}
use Rattle.trace_check.proofs.ChangeItems.{hooks_go, hooks_end}
use Rattle.trace_check.proofs.Listing.{once_put}
use Rattle.trace_check.proofs.changes.enter_hooks.Goals as goal

pub returns-then-at-len : goal.returns-then-at-len
returns-then-at-len c = λ program s.
    rw (drop_all c.args.at (map number_of (items_of c.args.names)) (rw length-map (omega arith))) (hooks_end program s (list_of c.args.work.now) (kind_of c.args.kind) (map view (items_of c.args.args)))

pub returns : goal.returns
returns c = λ program s. once_put c.put.result c.put.ensures.ok (λ put.
    let kind = kind_of c.args.kind in
    let args = map view (items_of c.args.args) in
    let names = map number_of (items_of c.args.names) in
    let name = number_of c.at-name.result.now in
    let left = drop (c.args.at + 1) names in
    rw (drop_at names c.args.at name (mapped_at number_of (items_of c.args.names) c.args.at c.at-name.result.now c.at-name.ensures), put ∙ ap (λ l. Enter kind (Some name) (map view (items_of c.in_ok-copies.copies)) ∷ l) c.put_back.ensures ∙ ap (λ a. Enter kind (Some name) a ∷ Hooks kind left args ∷ list_of c.args.work.now) c.in_ok-copies.ensures)
    (hooks_go program s (list_of c.args.work.now) kind args name left))
