use Rattle.std.proofs.Common.{map, refl}
use Rattle.ek_types.specs.Listing.{items_of}
use Rattle.ek_call.specs.Meaning.{view}
use Rattle.script_read.specs.PropStrings.{named_of}
use Rattle.script_read.proofs.Gathering.{not_listed}
use Rattle.script_read.proofs.properties.set_of.Goals as goal

pub returns-in_default : goal.returns-in_default
returns-in_default c =
    let none = not_listed (named_of (map view (items_of c.args.list.now))) (rw c.in_default.is at c.in_ok-given.ensures) in
    rw none refl
