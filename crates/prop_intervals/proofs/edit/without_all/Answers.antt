use Rattle.std.proofs.Common.{ap, ◌∙◌, map, option_map}
use Rattle.std.proofs.lemmas.Option.{slice_get-map}
use Rattle.ek_types.specs.Listing.{items_of}
use Rattle.ek_types.specs.Property.{number_of}
use Rattle.prop_intervals.proofs.EditLemmas.{one_without}
use Rattle.prop_intervals.proofs.edit.without_all.Goals as goal

pub loop-i-preserved : goal.loop-i-preserved
loop-i-preserved c =
    let names = items_of c.args.names.now in
    one_without (map number_of names) c.loop-i.left _ c.loop-i.i _ (slice_get-map number_of names c.loop-i.i ∙ ap (option_map number_of) c.at.ensures) c.without-left.ensures ∙ c.loop-i.invariant
