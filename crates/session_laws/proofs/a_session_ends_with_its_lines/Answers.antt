use Rattle.session_laws.proofs.Sessions.{session_ends}
use Rattle.session_laws.proofs.a_session_ends_with_its_lines.Goals as goal

pub returns : goal.returns
returns c = session_ends
