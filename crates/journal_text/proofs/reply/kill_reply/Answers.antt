use Rattle.std.proofs.Common.{◌+◌, true, refl}
use Rattle.plain_machine.specs.Exchanges.{Kill}
use Rattle.host_link.specs.Meaning.{exchange_of, exchanges_of}
use Rattle.host_link.specs.Hosts.{kill_answer}
use Rattle.journal_text.proofs.Replies.{replied}
use Rattle.journal_text.proofs.reply.kill_reply.Goals as goal

pub returns-in-Some : goal.returns-in-Some
returns-in-Some c =
    let list = exchanges_of c.args.list.now in
    let x = exchange_of c.in-Some.exchange.now in
    let asked = replied c.args.strayed list c.args.at (Kill c.args.child) 0 true (c.args.at + 1) x.answer c.requires.answered c.requires.within (x, c.in-Some.ensures.some, refl) refl in
    replied c.args.strayed list c.args.at (Kill c.args.child) 0 true (c.args.at + 1) (kill_answer c.killed.result) c.requires.answered c.requires.within (x, c.in-Some.ensures.some, c.killed.ensures asked.allowed) refl
