use Rattle.std.proofs.Common.{[], sym, ◌∙◌}
use Rattle.std.proofs.KnownBytes.{Appends-nil}
use Rattle.kernel_top.proofs.Sessions.{written_whole, too_long}
use Rattle.kernel_top.proofs.recording.write_session.Goals as goal

pub returns-then-fits-clause-written : goal.returns-then-fits-clause-written
returns-then-fits-clause-written g c =
    rw c.written_status.ensures (written_whole c.put_session.result _ (g.K.Sink.state c.args.sink.now) (g.K.Sink.state c.put_session.new.sink) (sym c.fits.ensures ∙ c.if-fits.true) c.put_session.ensures)

pub returns-else-fits-clause-written : goal.returns-else-fits-clause-written
returns-else-fits-clause-written g c = ([], Appends-nil _, too_long _ (g.K.Sink.state c.args.sink.now) (sym c.fits.ensures ∙ c.if-fits.false))
