use Rattle.std.proofs.Common.{sym, ◌∙◌}
use Rattle.handler_code.specs.Calls.{asked_of}
use Rattle.line_session.specs.Replies.{values_of, process_of, told_of}
use Rattle.line_session.proofs.InTurn.{if_ok_same, sentinel_short}
use Rattle.line_session.proofs.sentinel.next_call.Goals as goal

pub returns-then-not-has_answers : goal.returns-then-not-has_answers
returns-then-not-has_answers c =
    let short = sentinel_short c.args.limit (values_of c.args.command.now) (process_of c.args.args.now) (told_of c.args.args.now) c.args.past.now (sym c.has_answers.ensures ∙ c.if-not-has_answers.true) in
    if_ok_same asked_of c.look_back.result _ _ c.look_back.ensures (sym short)
