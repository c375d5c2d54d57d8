use Rattle.std.proofs.Common.{◌+◌, ◌∙◌, [], ◌∷◌, ◌++◌, map, drop, sym, ap}
use Rattle.std.proofs.lemmas.List.{map-append}
use Rattle.plain_machine.specs.Calls.{listed}
use Rattle.ek_types.specs.Listing.{items_of}
use Rattle.ek_call.specs.Meaning.{view}
use Rattle.kernel_state.specs.Meaning.{state_of}
use Rattle.kernel_state.proofs.ProcessCalls.{listed_from, listed_met, listed_passed}
use Rattle.kernel_state.proofs.setting.process_list.Goals.{then-listed+in_ok-push, else-listed}
use Rattle.kernel_state.proofs.setting.process_list.Goals as goal

pub loop-p-preserved : goal.loop-p-preserved
loop-p-preserved c =
    let ps = c.args.kernel.now.processes in
    let p = c.loop-p.p in
    let before = items_of c.loop-p.values in
    let whole = listed (state_of c.args.kernel.now) in
    let rest = listed_from (p + 1) (drop (p + 1) ps) in
    elim c.if-listed.branch [
      | then-listed+in_ok-push w ↦
          ap (λ vs. map view (items_of vs) ++ rest) w.values-is
          ∙ ap (λ front. front ++ rest) (ap (map view) w.in_ok-push.ensures.ok ∙ map-append view before (w.process_value.result ∷ []) ∙ ap (λ v. map view before ++ v ∷ []) w.process_value.ensures)
          ∙ listed_met ps p c.get.result.now (map view before) whole c.get.ensures (sym c.listed.ensures ∙ w.if-listed.true) c.loop-p.invariant
      | else-listed w ↦
          ap (λ vs. map view (items_of vs) ++ rest) w.values-is
          ∙ listed_passed ps p c.get.result.now (map view before) whole c.get.ensures (sym c.listed.ensures ∙ w.if-listed.false) c.loop-p.invariant
    ]
