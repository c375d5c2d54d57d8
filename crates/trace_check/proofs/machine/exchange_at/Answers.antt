use Rattle.std.proofs.Common.{map, sym, arith}
use Rattle.std.proofs.lemmas.List.{length-map}
use Rattle.std.proofs.lemmas.Option.{slice_get_past}
use Rattle.text_model.proofs.Lists.{mapped_at}
use Rattle.ek_types.specs.Listing.{items_of}
use Rattle.host_link.specs.Meaning.{exchange_of}
use Rattle.trace_check.proofs.machine.exchange_at.Goals as goal

pub returns-then-i-len : goal.returns-then-i-len
returns-then-i-len c = sym (slice_get_past (map exchange_of (items_of c.args.journal.now)) c.args.i (rw length-map (omega arith)))

pub returns : goal.returns
returns c = sym (mapped_at exchange_of (items_of c.args.journal.now) c.args.i c.at.result.now c.at.ensures)
