use Rattle.machine_laws.proofs.Soundness.{editors_are_sound}
use Rattle.machine_laws.proofs.editors_stay_sound.Goals as goal

pub returns : goal.returns
returns c = editors_are_sound
