-- What the definitions compute for the worked rows on overlays.
use Rattle.std.specs.Fmt.{digits}
use Rattle.std.specs.Char.{encode_utf8}
use Rattle.std.proofs.Common.{refl}
use Rattle.worked_rows.specs.Row.{Holds}
use Rattle.worked_rows.specs.OverlayRows.{overlays_before_markers, empty_overlays_at_an_insertion, evaporating_overlays, overlay_priorities, overlays_by_place}

pub overlays_before_markers_holds : Holds overlays_before_markers
unfolding digits encode_utf8
overlays_before_markers_holds = (refl, refl, refl)

pub empty_overlays_at_an_insertion_holds : Holds empty_overlays_at_an_insertion
unfolding digits encode_utf8
empty_overlays_at_an_insertion_holds = (refl, refl, refl)

pub evaporating_overlays_holds : Holds evaporating_overlays
unfolding digits encode_utf8
evaporating_overlays_holds = (refl, refl, refl)

pub overlay_priorities_holds : Holds overlay_priorities
unfolding digits encode_utf8
overlay_priorities_holds = (refl, refl, refl)

pub overlays_by_place_holds : Holds overlays_by_place
unfolding digits encode_utf8
overlays_by_place_holds = (refl, refl, refl)
