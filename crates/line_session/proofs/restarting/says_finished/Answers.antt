use Rattle.line_session.proofs.Strings.{same_finished}
use Rattle.line_session.proofs.restarting.says_finished.Goals as goal

pub returns : goal.returns
returns c = same_finished c.same_ascii.result c.args.text.now _ c.same_ascii.ensures c.text.ensures
