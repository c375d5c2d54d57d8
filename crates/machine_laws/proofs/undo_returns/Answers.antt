use Rattle.machine_laws.proofs.Returning.{undo_returns_in_runs}
use Rattle.machine_laws.proofs.undo_returns.Goals as goal

pub returns : goal.returns
returns c = λ program bound script. undo_returns_in_runs program bound script
