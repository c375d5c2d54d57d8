use Rattle.std.proofs.Common.{◌∷◌, [], ap, sym, ◌∙◌}
use Rattle.std.specs.Prelude.{Some}
use Rattle.editor_model.specs.Values.{SetBuffer, GotoChar}
use Rattle.handler_code.specs.Calls.{asked_of}
use Rattle.line_session.specs.Replies.{process_of}
use Rattle.line_session.proofs.InTurn.{if_ok_same, end_unanswered, end_1, end_2, end_3}
use Rattle.line_session.proofs.output.to_the_end.Goals as goal

pub returns-then-not-are_answers : goal.returns-then-not-are_answers
returns-then-not-are_answers c = sym (end_unanswered (process_of c.args.args.now) c.args.past.now (sym c.are_answers.ensures ∙ c.if-not-are_answers.true))

pub returns-in_ok-copied-in-1 : goal.returns-in_ok-copied-in-1
returns-in_ok-copied-in-1 c =
    let next = end_1 (process_of c.args.args.now) c.args.past.now (sym c.are_answers.ensures ∙ c.if-not-are_answers.false) c.in-1.is in
    if_ok_same asked_of c.ask_with-in-1.result _ _ c.ask_with-in-1.ensures (ap (λ v. Some (SetBuffer, v ∷ [])) (c.in_ok-copied-in-1.ensures ∙ c.answer.ensures) ∙ sym next)

pub returns-in-2 : goal.returns-in-2
returns-in-2 c =
    let next = end_2 (process_of c.args.args.now) c.args.past.now (sym c.are_answers.ensures ∙ c.if-not-are_answers.false) c.in-2.is in
    c.ask.ensures ∙ sym next

pub returns-in_ok-copied-in-3 : goal.returns-in_ok-copied-in-3
returns-in_ok-copied-in-3 c =
    let next = end_3 (process_of c.args.args.now) c.args.past.now (sym c.are_answers.ensures ∙ c.if-not-are_answers.false) c.in-3.is in
    if_ok_same asked_of c.ask_with-in-3.result _ _ c.ask_with-in-3.ensures (ap (λ v. Some (GotoChar, v ∷ [])) (c.in_ok-copied-in-3.ensures ∙ c.answer-in-3.ensures) ∙ sym next)
