use Rattle.std.proofs.Common.{◌∙◌, ap}
use Rattle.kernel_top.specs.Sessions.{fits}
use Rattle.kernel_top.proofs.Sessions.{counted, fits_by}
use Rattle.kernel_top.proofs.recording.fits.Goals as goal

pub returns : goal.returns
returns c =
    let bytes = counted c.put_session.result c.new-sink.result c.put_session.new.sink _ c.new-sink.ensures c.put_session.ensures in
    fits_by c.put_session.new.sink c.bytes.result c.bytes.ensures ∙ ap fits bytes
