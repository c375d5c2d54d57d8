use Rattle.machine_laws.proofs.CallRuns.{refused_calls_leave}
use Rattle.machine_laws.proofs.refused_calls_leave_the_state.Goals as goal

pub returns : goal.returns
returns c = refused_calls_leave
