use Rattle.machine_laws.proofs.Boundaries.{boundary_keeps}
use Rattle.machine_laws.proofs.nothing_is_newer_than_a_new_boundary.Goals as goal

pub returns : goal.returns
returns c = λ b good. boundary_keeps b good
