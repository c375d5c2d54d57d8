use Rattle.machine_laws.proofs.Alive.{broken_entries}
use Rattle.machine_laws.proofs.broken_runs_hear_all.Goals as goal

pub returns : goal.returns
returns c = λ program bound script. broken_entries program bound script
