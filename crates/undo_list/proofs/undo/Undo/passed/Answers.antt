use Rattle.std.proofs.Common.{◌≡◌, length, drop, take, Ok, ap, subst, ◌∙◌, arith}
use Rattle.text_model.specs.Undo.{Undo, passed}
use Rattle.undo_list.specs.Plans.{planned}
use Rattle.undo_list.specs.State.{Recording}
use Rattle.undo_list.proofs.Walking.{oldest-planned, tried-planned}
use Rattle.undo_list.proofs.Passing.{groups_between}
use Rattle.undo_list.proofs.undo.Undo.passed.Goals as goal

pub returns-clause-records : goal.returns-clause-records
returns-clause-records c = λ groups least most some h.
    let s = c.self.inside in
    let u : Undo = record { on = s.on; entries = s.records.entries; next = s.next; pending_below = s.pending_below } in
    let planned_here : planned groups least most u ≡ Ok c.args.plan.now = ap (λ r. planned groups least most r.state) c.self.view_is ∙ h in
    let between = groups_between groups s.next s.pending_below c.args.plan.now.last c.newer-from.result c.newer-to.result s.records.entries c.self.invariant.0
    (c.newer-from.ensures.exact s.next c.self.invariant.0) c.newer-from.ensures.within (c.newer-to.ensures.exact s.next c.self.invariant.0) c.newer-to.ensures.within
    (λ k. oldest-planned groups least most k u c.args.plan.now some planned_here) in
    let order = between.0 in
    let same : c.max.result ≡ c.newer-to.result = omega (arith, c.max.ensures, order) in
    rw same (subst (λ (r : Recording). drop c.newer-from.result (take c.newer-to.result r.state.entries) ≡ passed groups r.state) c.self.view_is between.1)

pub returns-clause-inside : goal.returns-clause-inside
returns-clause-inside c = λ groups least most some h. tried-planned groups least most c.args.self.now.state c.args.plan.now h

pub returns-clause-order : goal.returns-clause-order
returns-clause-order c = omega (arith, c.max.ensures)

pub returns-clause-within : goal.returns-clause-within
returns-clause-within c =
    let size = ap (λ (r : Recording). length r.state.entries) c.self.view_is in
    omega (arith, c.max.ensures, c.newer-from.ensures.within, c.newer-to.ensures.within, size)
