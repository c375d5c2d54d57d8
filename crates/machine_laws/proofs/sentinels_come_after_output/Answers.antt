use Rattle.machine_laws.proofs.Ended.{sentinels_after_output}
use Rattle.machine_laws.proofs.sentinels_come_after_output.Goals as goal

pub returns : goal.returns
returns c = λ program bound script. sentinels_after_output program bound script
