use Rattle.std.proofs.Common.{◌+◌, true, refl}
use Rattle.host_link.specs.Meaning.{ask_of, answer_of, exchange_of, exchanges_of}
use Rattle.journal_text.proofs.Replies.{replied}
use Rattle.journal_text.proofs.reply.reply_to.Goals as goal

pub returns-in_ok-copy-in-Some : goal.returns-in_ok-copy-in-Some
returns-in_ok-copy-in-Some c =
    replied c.args.strayed (exchanges_of c.args.list.now) c.args.at (ask_of c.args.ask.now) c.args.room true (c.args.at + 1) (answer_of c.in_ok-copy-in-Some.field-0)
    c.requires.answered c.requires.within (exchange_of c.in-Some.exchange.now, c.in-Some.ensures.some, c.in_ok-copy-in-Some.ensures) refl
