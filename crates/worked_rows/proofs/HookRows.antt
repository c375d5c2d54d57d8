-- What the definitions compute for the worked rows on change hooks.
use Rattle.std.specs.Fmt.{digits}
use Rattle.std.specs.Char.{encode_utf8}
use Rattle.std.proofs.Common.{refl}
use Rattle.worked_rows.specs.Row.{Holds}
use Rattle.worked_rows.specs.HookRows.{names_in_a_handler, hooks_inhibited, functions_of_a_copy, functions_in_a_list, hook_edits_before_the_change, hook_kills_the_buffer, after_change_arguments, hook_ended_by_a_fault, ends_of_a_pending_change, function_behind_a_change_ended_by_a_fault, changes_of_nothing}

pub hook_edits_before_the_change_holds : Holds hook_edits_before_the_change
unfolding digits encode_utf8
hook_edits_before_the_change_holds = (refl, refl, refl)

pub hook_kills_the_buffer_holds : Holds hook_kills_the_buffer
unfolding digits encode_utf8
hook_kills_the_buffer_holds = (refl, refl, refl)

pub after_change_arguments_holds : Holds after_change_arguments
unfolding digits encode_utf8
after_change_arguments_holds = (refl, refl, refl)

pub hook_ended_by_a_fault_holds : Holds hook_ended_by_a_fault
unfolding digits encode_utf8
hook_ended_by_a_fault_holds = (refl, refl, refl)

pub ends_of_a_pending_change_holds : Holds ends_of_a_pending_change
unfolding digits encode_utf8
ends_of_a_pending_change_holds = (refl, refl, refl)

pub function_behind_a_change_ended_by_a_fault_holds : Holds function_behind_a_change_ended_by_a_fault
unfolding digits encode_utf8
function_behind_a_change_ended_by_a_fault_holds = (refl, refl, refl)

pub changes_of_nothing_holds : Holds changes_of_nothing
unfolding digits encode_utf8
changes_of_nothing_holds = (refl, refl, refl)

pub functions_in_a_list_holds : Holds functions_in_a_list
unfolding digits encode_utf8
functions_in_a_list_holds = (refl, refl, refl)

pub functions_of_a_copy_holds : Holds functions_of_a_copy
unfolding digits encode_utf8
functions_of_a_copy_holds = (refl, refl, refl)

pub hooks_inhibited_holds : Holds hooks_inhibited
unfolding digits encode_utf8
hooks_inhibited_holds = (refl, refl, refl)

pub names_in_a_handler_holds : Holds names_in_a_handler
unfolding digits encode_utf8
names_in_a_handler_holds = (refl, refl, refl)
