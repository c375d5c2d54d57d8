use Rattle.kernel_top.proofs.RecordedRuns.{recorded_runs_replay}
use Rattle.kernel_top.proofs.laws.a_recorded_run_is_replayed.Goals as goal

pub returns : goal.returns
returns c = recorded_runs_replay
