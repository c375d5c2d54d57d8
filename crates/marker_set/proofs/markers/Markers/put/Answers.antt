use Rattle.std.proofs.Common.{Some, slice_set, ap, ◌∙◌}
use Rattle.marker_set.specs.Numbered.{marker_at, spot_of}
use Rattle.marker_set.proofs.markers.Markers.put.Goals as goal

pub returns : goal.returns
returns c =
    c.join.ensures ∙ ap (λ ms. slice_set ms c.args.k (record (marker_at ms c.args.k) { spot = spot_of (Some c.args.spot) })) (c.join_small.ensures ∙ c.enter.ensures.left c.if-enter.false)
