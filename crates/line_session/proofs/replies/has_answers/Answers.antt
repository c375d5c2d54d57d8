use Rattle.std.proofs.Common.{◌∙◌}
use Rattle.line_session.proofs.InTurn.{too_few, all_in_front}
use Rattle.line_session.proofs.replies.has_answers.Goals as goal

pub returns-then-past-count : goal.returns-then-past-count
returns-then-past-count c = too_few c.args.count c.args.past.now c.if-past-count.true

pub returns : goal.returns
returns c = c.are_answers.ensures ∙ all_in_front c.args.count c.args.past.now c.if-past-count.false
