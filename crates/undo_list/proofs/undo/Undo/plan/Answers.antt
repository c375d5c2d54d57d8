use Rattle.std.proofs.Common.{[], drop, Ok, ap, sym, ◌∙◌, arith}
use Rattle.std.proofs.Math.ListN.{drop_of_length-le}
use Rattle.text_model.specs.Undo.{Undo}
use Rattle.undo_list.specs.Plans.{planned}
use Rattle.undo_list.proofs.Walking.{planned-on}
use Rattle.undo_list.proofs.undo.Undo.plan.Goals as goal

pub returns-then-start-len : goal.returns-then-start-len
returns-then-start-len c =
    let s = c.self.inside in
    let u : Undo = record { on = s.on; entries = s.records.entries; next = s.next; pending_below = s.pending_below } in
    let none = drop_of_length-le s.records.entries {i = c.newer-start.result} (omega arith) in
    ap Ok (sym (planned-on c.args.groups c.args.min c.args.max u [] c.if-not-self.false (sym (c.newer-start.ensures.exact s.next c.self.invariant.0) ∙ none)))
    ∙ ap (λ r. Ok (planned c.args.groups c.args.min c.args.max r.state)) c.self.view_is

pub returns : goal.returns
returns c =
    let s = c.self.inside in
    let u : Undo = record { on = s.on; entries = s.records.entries; next = s.next; pending_below = s.pending_below } in
    ap Ok (c.plan.ensures ∙ sym (planned-on c.args.groups c.args.min c.args.max u (drop c.newer-start.result s.records.entries) c.if-not-self.false (sym (c.newer-start.ensures.exact s.next c.self.invariant.0))))
    ∙ ap (λ r. Ok (planned c.args.groups c.args.min c.args.max r.state)) c.self.view_is
