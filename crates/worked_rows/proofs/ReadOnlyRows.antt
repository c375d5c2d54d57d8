-- What the definitions compute for the worked rows on read-only buffers and read-only text.
use Rattle.std.specs.Fmt.{digits}
use Rattle.std.specs.Char.{encode_utf8}
use Rattle.std.proofs.Common.{refl}
use Rattle.worked_rows.specs.Row.{Holds}
use Rattle.worked_rows.specs.ReadOnlyRows.{what_is_read_only, nothing_to_change, block_ended_by_a_fault, neighbours_of_read_only_text, undoing_what_is_read_only, hook_makes_the_buffer_read_only, output_where_it_is_read_only}

pub what_is_read_only_holds : Holds what_is_read_only
unfolding digits encode_utf8
what_is_read_only_holds = (refl, refl, refl)

pub nothing_to_change_holds : Holds nothing_to_change
unfolding digits encode_utf8
nothing_to_change_holds = (refl, refl, refl)

pub block_ended_by_a_fault_holds : Holds block_ended_by_a_fault
unfolding digits encode_utf8
block_ended_by_a_fault_holds = (refl, refl, refl)

pub neighbours_of_read_only_text_holds : Holds neighbours_of_read_only_text
unfolding digits encode_utf8
neighbours_of_read_only_text_holds = (refl, refl, refl)

pub undoing_what_is_read_only_holds : Holds undoing_what_is_read_only
unfolding digits encode_utf8
undoing_what_is_read_only_holds = (refl, refl, refl)

pub hook_makes_the_buffer_read_only_holds : Holds hook_makes_the_buffer_read_only
unfolding digits encode_utf8
hook_makes_the_buffer_read_only_holds = (refl, refl, refl)

pub output_where_it_is_read_only_holds : Holds output_where_it_is_read_only
unfolding digits encode_utf8
output_where_it_is_read_only_holds = (refl, refl, refl)
