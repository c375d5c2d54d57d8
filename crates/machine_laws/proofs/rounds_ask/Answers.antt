use Rattle.machine_laws.proofs.Rounds.{rounds_ask}
use Rattle.machine_laws.proofs.rounds_ask.Goals as goal

pub returns : goal.returns
returns c = rounds_ask
