use Rattle.std.proofs.Common.{◌∙◌}
use Rattle.script_read.proofs.Quotes.{plain_front}
use Rattle.script_read.proofs.strings.plain_len.Goals as goal

pub returns-clause-exact : goal.returns-clause-exact
returns-clause-exact c = c.unwrap_or.ensures ∙ plain_front c.args.bytes.now c.memchr2.result c.memchr2.ensures
