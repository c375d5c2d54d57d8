-- What the definitions compute for the worked rows on waits and handlers that wait.
use Rattle.std.specs.Fmt.{digits}
use Rattle.std.specs.Char.{encode_utf8}
use Rattle.std.proofs.Common.{refl}
use Rattle.worked_rows.specs.Row.{Holds}
use Rattle.worked_rows.specs.WaitRows.{target_asked_first, nesting_bound, filter_that_waits, filter_deletes_another_process, deletion_refused_at_bound_one, rounds_and_just_this_one}

pub filter_that_waits_holds : Holds filter_that_waits
unfolding digits encode_utf8
filter_that_waits_holds = (refl, refl, refl)

pub filter_deletes_another_process_holds : Holds filter_deletes_another_process
unfolding digits encode_utf8
filter_deletes_another_process_holds = (refl, refl, refl)

pub deletion_refused_at_bound_one_holds : Holds deletion_refused_at_bound_one
unfolding digits encode_utf8
deletion_refused_at_bound_one_holds = (refl, refl, refl)

pub rounds_and_just_this_one_holds : Holds rounds_and_just_this_one
unfolding digits encode_utf8
rounds_and_just_this_one_holds = (refl, refl, refl)

pub nesting_bound_holds : Holds nesting_bound
unfolding digits encode_utf8
nesting_bound_holds = (refl, refl, refl)

pub target_asked_first_holds : Holds target_asked_first
unfolding digits encode_utf8
target_asked_first_holds = (refl, refl, refl)
