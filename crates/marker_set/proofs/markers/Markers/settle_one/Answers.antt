use Rattle.std.proofs.Common.{length, ap, arith}
use Rattle.std.proofs.lemmas.List.{length-map}
use Rattle.marker_set.specs.Homes.{marker_in}
use Rattle.marker_set.proofs.markers.Markers.settle_one.Goals as goal

pub index-requires : goal.index-requires
index-requires c = omega (arith, length-map c.self.inside.slots.items (marker_in c.self.inside.parts.items), ap length c.self.view_is, c.requires, c.self.inside.slots.ok.0)
