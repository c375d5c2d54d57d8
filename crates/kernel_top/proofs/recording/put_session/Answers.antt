use Rattle.ek_types.proofs.Printing.{continues_then}
use Rattle.kernel_top.proofs.Sessions.{written_then}
use Rattle.kernel_top.proofs.recording.put_session.Goals as goal

pub returns : goal.returns
returns g c = written_then c.write_journal-so_far.ensures (continues_then c.put-so_far.ensures c.put.ensures)
