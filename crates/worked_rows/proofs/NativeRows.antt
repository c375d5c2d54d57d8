-- What the definitions compute for the worked rows on handlers that are not written in the script.
use Rattle.std.specs.Fmt.{digits}
use Rattle.std.specs.Char.{encode_utf8}
use Rattle.std.proofs.Common.{refl}
use Rattle.worked_rows.specs.Row.{Holds}
use Rattle.worked_rows.specs.NativeRows.{handler_hides_a_native, native_that_never_ends, native_gives_a_buffer_never_made, odd_calls_of_a_native, shipped_insert_filter, shipped_note_sentinel}

pub shipped_insert_filter_holds : Holds shipped_insert_filter
unfolding digits encode_utf8
shipped_insert_filter_holds = (refl, refl, refl)

pub shipped_note_sentinel_holds : Holds shipped_note_sentinel
unfolding digits encode_utf8
shipped_note_sentinel_holds = (refl, refl, refl)

pub native_that_never_ends_holds : Holds native_that_never_ends
unfolding digits encode_utf8
native_that_never_ends_holds = (refl, refl, refl)

pub native_gives_a_buffer_never_made_holds : Holds native_gives_a_buffer_never_made
unfolding digits encode_utf8
native_gives_a_buffer_never_made_holds = (refl, refl, refl)

pub odd_calls_of_a_native_holds : Holds odd_calls_of_a_native
unfolding digits encode_utf8
odd_calls_of_a_native_holds = (refl, refl, refl)

pub handler_hides_a_native_holds : Holds handler_hides_a_native
unfolding digits encode_utf8
handler_hides_a_native_holds = (refl, refl, refl)
