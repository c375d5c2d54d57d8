use Rattle.std.proofs.Common.{Some, slice_set, ap, sym, ◌∙◌}
use Rattle.marker_set.specs.Numbered.{marker_at, spot_of}
use Rattle.marker_set.proofs.LeftLemmas.{set_after_set}
use Rattle.marker_set.proofs.markers.Markers.set.Goals as goal

pub returns-in-Some : goal.returns-in-Some
returns-in-Some c =
    c.put.ensures ∙ ap (λ ms. slice_set ms c.args.k (record (marker_at ms c.args.k) { spot = spot_of (Some c.in-Some.spot) })) c.leave.ensures
    ∙ set_after_set c.args.self.now c.args.k (spot_of (Some c.in-Some.spot)) c.requires
    ∙ ap (λ to. slice_set c.args.self.now c.args.k (record (marker_at c.args.self.now c.args.k) { spot = spot_of to })) (sym c.in-Some.is)
