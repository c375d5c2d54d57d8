-- What the definitions compute for the worked rows on texts, markers and blocks.
use Rattle.std.specs.Fmt.{digits}
use Rattle.std.specs.Char.{encode_utf8}
use Rattle.std.proofs.Common.{refl}
use Rattle.worked_rows.specs.Row.{Holds}
use Rattle.worked_rows.specs.TextRows.{kept_point_moves, buffer_put_back_and_forms_chosen, empty_script, first_path, region_out_of_range, empty_insertion, markers_at_a_tie, excursion_in_a_restriction, kept_end_of_a_restriction, kept_point_of_an_excursion}

pub empty_script_holds : Holds empty_script
unfolding digits encode_utf8
empty_script_holds = (refl, refl, refl)

pub first_path_holds : Holds first_path
unfolding digits encode_utf8
first_path_holds = (refl, refl, refl)

pub region_out_of_range_holds : Holds region_out_of_range
unfolding digits encode_utf8
region_out_of_range_holds = (refl, refl, refl)

pub empty_insertion_holds : Holds empty_insertion
unfolding digits encode_utf8
empty_insertion_holds = (refl, refl, refl)

pub markers_at_a_tie_holds : Holds markers_at_a_tie
unfolding digits encode_utf8
markers_at_a_tie_holds = (refl, refl, refl)

pub excursion_in_a_restriction_holds : Holds excursion_in_a_restriction
unfolding digits encode_utf8
excursion_in_a_restriction_holds = (refl, refl, refl)

pub kept_end_of_a_restriction_holds : Holds kept_end_of_a_restriction
unfolding digits encode_utf8
kept_end_of_a_restriction_holds = (refl, refl, refl)

pub kept_point_of_an_excursion_holds : Holds kept_point_of_an_excursion
unfolding digits encode_utf8
kept_point_of_an_excursion_holds = (refl, refl, refl)

pub buffer_put_back_and_forms_chosen_holds : Holds buffer_put_back_and_forms_chosen
unfolding digits encode_utf8
buffer_put_back_and_forms_chosen_holds = (refl, refl, refl)

pub kept_point_moves_holds : Holds kept_point_moves
unfolding digits encode_utf8
kept_point_moves_holds = (refl, refl, refl)
