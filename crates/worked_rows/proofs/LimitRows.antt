-- What the definitions compute for runs that begin where a limit is reached.
use Rattle.std.specs.Fmt.{digits}
use Rattle.std.specs.Char.{encode_utf8}
use Rattle.std.proofs.Common.{refl}
use Rattle.worked_rows.specs.Row.{Holds}
use Rattle.worked_rows.specs.LimitRows.{all_buffers_made, all_processes_made, all_exchanges_made, exchanges_spent, all_bytes_sent, deepest_handler}

pub all_buffers_made_holds : Holds all_buffers_made
unfolding digits encode_utf8
all_buffers_made_holds = (refl, refl, refl)

pub all_processes_made_holds : Holds all_processes_made
unfolding digits encode_utf8
all_processes_made_holds = (refl, refl, refl)

pub all_exchanges_made_holds : Holds all_exchanges_made
unfolding digits encode_utf8
all_exchanges_made_holds = (refl, refl, refl)

pub exchanges_spent_holds : Holds exchanges_spent
unfolding digits encode_utf8
exchanges_spent_holds = (refl, refl, refl)

pub all_bytes_sent_holds : Holds all_bytes_sent
unfolding digits encode_utf8
all_bytes_sent_holds = (refl, refl, refl)

pub deepest_handler_holds : Holds deepest_handler
unfolding digits encode_utf8
deepest_handler_holds = (refl, refl, refl)
