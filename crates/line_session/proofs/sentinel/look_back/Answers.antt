use Rattle.std.proofs.Common.{◌≡◌, ◌∷◌, [], length, ap, sym, ◌∙◌, arith}
use Rattle.std.specs.Prelude.{Some}
use Rattle.editor_model.specs.Values.{CharAfter}
use Rattle.handler_code.specs.Calls.{asked_of}
use Rattle.line_session.specs.Handlers.{before}
use Rattle.line_session.specs.Replies.{process_of}
use Rattle.line_session.proofs.InTurn.{if_ok_same, last_near, last_unanswered, last_next, last_made}
use Rattle.line_session.proofs.sentinel.look_back.Goals as goal

pub returns-then-past-lt4 : goal.returns-then-past-lt4
returns-then-past-lt4 c = if_ok_same asked_of c.to_the_end.result _ _ c.to_the_end.ensures (sym (last_near (process_of c.args.args.now) c.args.past.now c.if-past-lt4.true))

pub returns-then-past-gt4 : goal.returns-then-past-gt4
returns-then-past-gt4 c = sym (last_made (process_of c.args.args.now) c.args.past.now c.if-past-gt4.true)

pub returns-then-not-are_answers : goal.returns-then-not-are_answers
returns-then-not-are_answers c = sym (last_unanswered (process_of c.args.args.now) c.args.past.now (sym c.are_answers.ensures ∙ c.if-not-are_answers.true))

pub returns : goal.returns
returns c =
    let is : length c.args.past.now ≡ 4 = omega (arith, c.if-past-lt4.false, c.if-past-gt4.false) in
    let next = last_next (process_of c.args.args.now) c.args.past.now (sym c.are_answers.ensures ∙ c.if-not-are_answers.false) is in
    if_ok_same asked_of c.ask_with.result _ _ c.ask_with.ensures (ap (λ v. Some (CharAfter, v ∷ [])) (c.before-2.ensures ∙ ap before c.answer.ensures) ∙ sym next)
