use Rattle.std.proofs.Common.{◌∷◌, [], ap, sym, ◌∙◌}
use Rattle.std.specs.Prelude.{Some}
use Rattle.editor_model.specs.Values.{ProcessSentinel}
use Rattle.handler_code.specs.Calls.{asked_of}
use Rattle.line_session.specs.Replies.{values_of, process_of}
use Rattle.line_session.proofs.InTurn.{if_ok_same, first_argument, start_unanswered, start_1, start_2, start_3, start_4}
use Rattle.line_session.proofs.restarting.start_again.Goals as goal

pub returns-then-not-are_answers : goal.returns-then-not-are_answers
returns-then-not-are_answers c = sym (start_unanswered (values_of c.args.command.now) (process_of c.args.args.now) c.args.past.now (sym c.are_answers.ensures ∙ c.if-not-are_answers.true))

pub returns-in_ok-copied-in-1 : goal.returns-in_ok-copied-in-1
returns-in_ok-copied-in-1 c =
    let next = start_1 (values_of c.args.command.now) (process_of c.args.args.now) c.args.past.now (sym c.are_answers.ensures ∙ c.if-not-are_answers.false) c.in-1.is in
    if_ok_same asked_of c.ask_with-in-1.result _ _ c.ask_with-in-1.ensures (ap (λ v. Some (ProcessSentinel, v ∷ [])) (c.in_ok-copied-in-1.ensures ∙ first_argument _ _ c.argument-in-1.ensures) ∙ sym next)

pub returns-in-2 : goal.returns-in-2
returns-in-2 c = if_ok_same asked_of c.start.result _ _ c.start.ensures (sym (start_2 (values_of c.args.command.now) (process_of c.args.args.now) c.args.past.now (sym c.are_answers.ensures ∙ c.if-not-are_answers.false) c.in-2.is))

pub returns-in-3 : goal.returns-in-3
returns-in-3 c = if_ok_same asked_of c.hand_over.result _ _ c.hand_over.ensures (sym (start_3 (values_of c.args.command.now) (process_of c.args.args.now) c.args.past.now (sym c.are_answers.ensures ∙ c.if-not-are_answers.false) c.in-3.is))

pub returns-in-4 : goal.returns-in-4
returns-in-4 c = if_ok_same asked_of c.hand_over-in-4.result _ _ c.hand_over-in-4.ensures (sym (start_4 (values_of c.args.command.now) (process_of c.args.args.now) c.args.past.now (sym c.are_answers.ensures ∙ c.if-not-are_answers.false) c.in-4.is))
