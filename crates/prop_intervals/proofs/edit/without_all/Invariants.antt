use Rattle.std.proofs.Common.{◌≡◌, drop, map}
use Rattle.text_model.specs.Properties.{without_all}
use Rattle.ek_types.specs.Listing.{items_of}
use Rattle.ek_types.specs.Property.{number_of}
use Rattle.prop_intervals.proofs.edit.without_all.Given as goal

abbrev pub invariant-loop-i : goal.invariant-loop-i
invariant-loop-i l = without_all l.left (drop l.i (map number_of (items_of l.names))) ≡ without_all l.set (map number_of (items_of l.names))
