-- What the definitions compute for the worked rows on text properties and what an insertion inherits.
use Rattle.std.specs.Fmt.{digits}
use Rattle.std.specs.Char.{encode_utf8}
use Rattle.std.proofs.Common.{refl}
use Rattle.worked_rows.specs.Row.{Holds}
use Rattle.worked_rows.specs.PropertyRows.{inherited_from_the_front, stickiness, property_changes}

pub stickiness_holds : Holds stickiness
unfolding digits encode_utf8
stickiness_holds = (refl, refl, refl)

pub property_changes_holds : Holds property_changes
unfolding digits encode_utf8
property_changes_holds = (refl, refl, refl)

pub inherited_from_the_front_holds : Holds inherited_from_the_front
unfolding digits encode_utf8
inherited_from_the_front_holds = (refl, refl, refl)
