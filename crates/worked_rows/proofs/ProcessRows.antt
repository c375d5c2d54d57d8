-- What the definitions compute for the worked rows on processes and their default handlers.
use Rattle.std.specs.Fmt.{digits}
use Rattle.std.specs.Char.{encode_utf8}
use Rattle.std.proofs.Common.{refl}
use Rattle.worked_rows.specs.Row.{Holds}
use Rattle.worked_rows.specs.ProcessRows.{questions_to_processes, AreWhole, eight_cuttings, default_handlers, waits_without_a_process, spawn_refused, spawn_refused_leaves_a_void_name, character_cut_across_reads, held_tail_at_end_of_output, read_and_end_fail, filter_off_and_on, default_filter_outside_the_narrowing, kill_that_fails, real_children, scope_ends_with_its_handler}

pub default_handlers_holds : Holds default_handlers
unfolding digits encode_utf8
default_handlers_holds = (refl, refl, refl)

pub waits_without_a_process_holds : Holds waits_without_a_process
unfolding digits encode_utf8
waits_without_a_process_holds = (refl, refl, refl)

pub spawn_refused_holds : Holds spawn_refused
unfolding digits encode_utf8
spawn_refused_holds = (refl, refl, refl)

pub spawn_refused_leaves_a_void_name_holds : Holds spawn_refused_leaves_a_void_name
unfolding digits encode_utf8
spawn_refused_leaves_a_void_name_holds = (refl, refl, refl)

pub character_cut_across_reads_holds : Holds character_cut_across_reads
unfolding digits encode_utf8
character_cut_across_reads_holds = (refl, refl, refl)

pub held_tail_at_end_of_output_holds : Holds held_tail_at_end_of_output
unfolding digits encode_utf8
held_tail_at_end_of_output_holds = (refl, refl, refl)

pub read_and_end_fail_holds : Holds read_and_end_fail
unfolding digits encode_utf8
read_and_end_fail_holds = (refl, refl, refl)

pub filter_off_and_on_holds : Holds filter_off_and_on
unfolding digits encode_utf8
filter_off_and_on_holds = (refl, refl, refl)

pub default_filter_outside_the_narrowing_holds : Holds default_filter_outside_the_narrowing
unfolding digits encode_utf8
default_filter_outside_the_narrowing_holds = (refl, refl, refl)

pub kill_that_fails_holds : Holds kill_that_fails
unfolding digits encode_utf8
kill_that_fails_holds = (refl, refl, refl)

pub real_children_holds : Holds real_children
unfolding digits encode_utf8
real_children_holds = (refl, refl, refl)

pub output_in_any_cutting : AreWhole eight_cuttings
unfolding digits encode_utf8
output_in_any_cutting =
    ((refl, refl, refl, refl), ((refl, refl, refl, refl), ((refl, refl, refl, refl), ((refl, refl, refl, refl), ((refl, refl, refl, refl), ((refl, refl, refl, refl), ((refl, refl, refl, refl), ((refl, refl, refl, refl), tt))))))))

pub scope_ends_with_its_handler_holds : Holds scope_ends_with_its_handler
unfolding digits encode_utf8
scope_ends_with_its_handler_holds = (refl, refl, refl)

pub questions_to_processes_holds : Holds questions_to_processes
unfolding digits encode_utf8
questions_to_processes_holds = (refl, refl, refl)
