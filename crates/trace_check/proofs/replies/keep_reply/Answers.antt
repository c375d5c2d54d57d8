use Rattle.std.proofs.Common.{ap, sym, ◌∙◌}
use Rattle.plain_machine.specs.Forms.{kept_reply}
use Rattle.ek_call.specs.Meaning.{reply_of}
use Rattle.trace_check.proofs.replies.keep_reply.Goals as goal

pub returns-in-None : goal.returns-in-None
returns-in-None c = c.in-None.ensures.none.1 ∙ ap (kept_reply (reply_of c.args.reply)) (sym c.in-None.ensures.none.0)
