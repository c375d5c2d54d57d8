use Rattle.session_laws.proofs.Sessions.{session_starts}
use Rattle.session_laws.proofs.a_session_starts_again_behind_a_failure.Goals as goal

pub returns : goal.returns
returns c = session_starts
