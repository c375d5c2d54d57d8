use Rattle.journal_laws.proofs.Replaying.{one_replay}
use Rattle.journal_laws.proofs.a_session_has_one_replay.Goals as goal

pub returns : goal.returns
returns c = one_replay
