use Rattle.machine_laws.proofs.Killing.{kills_once}
use Rattle.machine_laws.proofs.kills_come_once.Goals as goal

pub returns : goal.returns
returns c = λ program bound script. kills_once program bound script
