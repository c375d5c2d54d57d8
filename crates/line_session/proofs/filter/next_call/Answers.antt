use Rattle.std.proofs.Common.{sym, ◌∙◌}
use Rattle.handler_code.specs.Calls.{asked_of}
use Rattle.line_session.specs.Replies.{process_of, told_of}
use Rattle.line_session.proofs.InTurn.{if_ok_same, filter_short}
use Rattle.line_session.proofs.filter.next_call.Goals as goal

pub returns-else-has_answers : goal.returns-else-has_answers
returns-else-has_answers c =
    let short = filter_short (process_of c.args.args.now) (told_of c.args.args.now) c.args.past.now (sym c.has_answers.ensures ∙ c.if-has_answers.false) in
    if_ok_same asked_of c.to_the_end.result _ _ c.to_the_end.ensures (sym short)
