use Rattle.machine_laws.proofs.Alive.{ran_entries}
use Rattle.machine_laws.proofs.whole_runs_hear_all.Goals as goal

pub returns : goal.returns
returns c = λ program bound script. ran_entries program bound script
