-- What the definitions compute for the worked rows on the codings of processes.
use Rattle.std.specs.Fmt.{digits}
use Rattle.std.specs.Char.{encode_utf8}
use Rattle.std.proofs.Common.{refl}
use Rattle.worked_rows.specs.Row.{Holds}
use Rattle.worked_rows.specs.CodingRows.{line_ends_cut_across_reads, bytes_as_characters, returns_doubled_and_before_malformed_bytes, coding_asked_in_a_filter, coding_of_a_process_that_was_never_read, coding_is_refused_last}

pub line_ends_cut_across_reads_holds : Holds line_ends_cut_across_reads
unfolding digits encode_utf8
line_ends_cut_across_reads_holds = (refl, refl, refl)

pub bytes_as_characters_holds : Holds bytes_as_characters
unfolding digits encode_utf8
bytes_as_characters_holds = (refl, refl, refl)

pub returns_doubled_and_before_malformed_bytes_holds : Holds returns_doubled_and_before_malformed_bytes
unfolding digits encode_utf8
returns_doubled_and_before_malformed_bytes_holds = (refl, refl, refl)

pub coding_asked_in_a_filter_holds : Holds coding_asked_in_a_filter
unfolding digits encode_utf8
coding_asked_in_a_filter_holds = (refl, refl, refl)

pub coding_of_a_process_that_was_never_read_holds : Holds coding_of_a_process_that_was_never_read
unfolding digits encode_utf8
coding_of_a_process_that_was_never_read_holds = (refl, refl, refl)

pub coding_is_refused_last_holds : Holds coding_is_refused_last
unfolding digits encode_utf8
coding_is_refused_last_holds = (refl, refl, refl)
