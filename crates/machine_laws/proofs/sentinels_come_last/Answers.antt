use Rattle.machine_laws.proofs.Heard.{sentinels}
use Rattle.machine_laws.proofs.sentinels_come_last.Goals as goal

pub returns : goal.returns
returns c = λ program bound script. sentinels program bound script
