use Rattle.machine_laws.proofs.Bounded.{few_in_all}
use Rattle.machine_laws.proofs.exchanges_stay_few_in_all.Goals as goal

pub returns : goal.returns
returns c = λ program bound script. few_in_all program bound script
