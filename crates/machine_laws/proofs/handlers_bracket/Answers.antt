use Rattle.machine_laws.proofs.Bracketing.{handlers_bracket}
use Rattle.machine_laws.proofs.handlers_bracket.Goals as goal

pub returns : goal.returns
returns c = handlers_bracket
