-- What the definitions compute for the worked rows on undo.
use Rattle.std.specs.Fmt.{digits}
use Rattle.std.specs.Char.{encode_utf8}
use Rattle.std.proofs.Common.{refl}
use Rattle.worked_rows.specs.Row.{Holds}
use Rattle.worked_rows.specs.UndoRows.{undo_in_groups, undo_outside, undo_list_as_printed, recording_switched_off, deletion_undone_with_properties, empty_group_first, undo_leaves_a_marker_that_has_moved}

pub undo_in_groups_holds : Holds undo_in_groups
unfolding digits encode_utf8
undo_in_groups_holds = (refl, refl, refl)

pub undo_outside_holds : Holds undo_outside
unfolding digits encode_utf8
undo_outside_holds = (refl, refl, refl)

pub undo_list_as_printed_holds : Holds undo_list_as_printed
unfolding digits encode_utf8
undo_list_as_printed_holds = (refl, refl, refl)

pub recording_switched_off_holds : Holds recording_switched_off
unfolding digits encode_utf8
recording_switched_off_holds = (refl, refl, refl)

pub deletion_undone_with_properties_holds : Holds deletion_undone_with_properties
unfolding digits encode_utf8
deletion_undone_with_properties_holds = (refl, refl, refl)

pub empty_group_first_holds : Holds empty_group_first
unfolding digits encode_utf8
empty_group_first_holds = (refl, refl, refl)

pub undo_leaves_a_marker_that_has_moved_holds : Holds undo_leaves_a_marker_that_has_moved
unfolding digits encode_utf8
undo_leaves_a_marker_that_has_moved_holds = (refl, refl, refl)
