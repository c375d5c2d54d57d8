use Rattle.std.proofs.Common.{◌++◌, [], ◌∷◌, ◌+◌, map, drop, sym, ap, ◌∙◌}
use Rattle.text_model.proofs.Lists.{mapped_at}
use Rattle.plain_machine.specs.Forms.{evaluate}
use Rattle.ek_types.specs.Listing.{items_of}
use Rattle.ek_call.specs.Meaning.{arg_of, view}
use Rattle.kernel_steps.proofs.Evaluating.{prefixed, one_more, none_there, map_more}
use Rattle.trace_check.proofs.arguments.values.Goals as goal

pub returns-in_default : goal.returns-in_default
returns-in_default g c =
    let all = items_of c.args.args.now in
    sym (none_there (g.M.Kernel.state c.args.kernel.now) (map arg_of all) c.loop-i.i (arg_of c.at.result.now) (map view (items_of c.loop-i.values)) (mapped_at arg_of all c.loop-i.i c.at.result.now c.at.ensures) c.loop-i.invariant (sym (rw c.in_default.is at c.value.ensures)))

pub loop-i-preserved : goal.loop-i-preserved
loop-i-preserved g c =
    let all = items_of c.args.args.now in
    let s = g.M.Kernel.state c.args.kernel.now in
    let front = items_of c.loop-i.values in
    let pushed = ap (map view) c.in_ok-push.ensures.ok ∙ map_more view front c.in_ok-copy.field-0 ∙ ap (λ v. map view front ++ v ∷ []) c.in_ok-copy.ensures in
    one_more s (map arg_of all) c.loop-i.i (arg_of c.at.result.now) (map view front) (mapped_at arg_of all c.loop-i.i c.at.result.now c.at.ensures) c.loop-i.invariant (view c.in-Some.value.now) (sym c.in-Some.ensures)
    ∙ ap (λ f. prefixed f (evaluate s (drop (c.loop-i.i + 1) (map arg_of all)))) (sym pushed)
