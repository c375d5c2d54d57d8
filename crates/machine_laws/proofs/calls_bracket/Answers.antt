use Rattle.machine_laws.proofs.Bracketing.{calls_bracket}
use Rattle.machine_laws.proofs.calls_bracket.Goals as goal

pub returns : goal.returns
returns c = calls_bracket
