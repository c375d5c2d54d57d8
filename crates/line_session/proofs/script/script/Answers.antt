use Rattle.line_session.specs.Replies.{values_of}
use Rattle.line_session.proofs.MadeForms.{script_is}
use Rattle.line_session.proofs.script.script.Goals as goal

pub returns : goal.returns
returns c = script_is 65536 c.in_ok-symbols.symbols c.new.result c.in_ok-forms.forms (values_of c.args.command.now) c.in_ok-symbols.ensures c.new.ensures c.in_ok-forms.ensures
