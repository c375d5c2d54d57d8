use Rattle.std.proofs.Common.{◌∷◌, map, ap, ◌∙◌, sym}
use Rattle.plain_machine.specs.Items.{Hooks}
use Rattle.ek_types.specs.Listing.{items_of}
use Rattle.ek_types.specs.Property.{number_of}
use Rattle.ek_call.specs.Meaning.{view}
use Rattle.kernel_steps.specs.Handlers.{kind_of}
use Rattle.trace_check.specs.Meaning.{list_of}
use Rattle.trace_check.proofs.ChangeItems.{unhooked, hooked}
use Rattle.trace_check.proofs.Listing.{once_put}
use Rattle.trace_check.proofs.changes.put_hooks.Goals as goal

pub returns-then-inhibited : goal.returns-then-inhibited
returns-then-inhibited g c =
    unhooked (g.M.Kernel.state c.args.kernel.now) (list_of c.args.work.now) (kind_of c.args.kind) (map view (items_of c.args.args)) (sym c.inhibited.ensures ∙ c.if-inhibited.true)

pub returns : goal.returns
returns g c = once_put c.put.result c.put.ensures.ok (λ put.
    let names = map number_of (items_of c.in_ok-names.names) in
    let args = map view (items_of c.args.args) in
    hooked (g.M.Kernel.state c.args.kernel.now) (g.M.Kernel.state c.begin_hooks.new.kernel) (list_of c.args.work.now) (list_of c.put.new.self) (kind_of c.args.kind) names args (sym c.inhibited.ensures ∙ c.if-inhibited.false) c.in_ok-names.ensures.state c.in_ok-names.ensures.names
    (put ∙ ap (λ l. Hooks (kind_of c.args.kind) names args ∷ l) c.in_ok-names.ensures.work))
