use Rattle.std.proofs.Common.{None, Some, length, slice_set, ap, ◌∙◌, arith}
use Rattle.std.proofs.lemmas.List.{length-set}
use Rattle.marker_set.specs.Numbered.{marker_at, spot_of}
use Rattle.marker_set.proofs.LeftLemmas.{marker_at-set_same, set_back}
use Rattle.marker_set.proofs.markers.Markers.rehouse.Goals as goal

pub leave-requires : goal.leave-requires
leave-requires c =
    omega (arith, c.requires)

pub enter-requires-clause-made : goal.enter-requires-clause-made
enter-requires-clause-made c =
    omega (arith, c.requires, ap length c.leave.ensures, length-set c.args.self.now c.args.k (record (marker_at c.args.self.now c.args.k) { spot = None }))

pub enter-requires-clause-free : goal.enter-requires-clause-free
enter-requires-clause-free c =
    ap (λ ms. (marker_at ms c.args.k).spot) c.leave.ensures ∙ ap (λ m. m.spot) (marker_at-set_same c.args.self.now c.args.k (record (marker_at c.args.self.now c.args.k) { spot = None }) c.requires)

pub stand_alone-requires-clause-made : goal.stand_alone-requires-clause-made
stand_alone-requires-clause-made c =
    omega (arith, c.requires, ap length c.leave.ensures, length-set c.args.self.now c.args.k (record (marker_at c.args.self.now c.args.k) { spot = None }), ap length (c.enter.ensures.left c.if-not-enter.true))

pub stand_alone-requires-clause-free : goal.stand_alone-requires-clause-free
stand_alone-requires-clause-free c =
    ap (λ ms. (marker_at ms c.args.k).spot) (c.enter.ensures.left c.if-not-enter.true ∙ c.leave.ensures) ∙ ap (λ m. m.spot) (marker_at-set_same c.args.self.now c.args.k (record (marker_at c.args.self.now c.args.k) { spot = None }) c.requires)

pub returns-then-not-enter : goal.returns-then-not-enter
returns-then-not-enter c =
    c.stand_alone.ensures
    ∙ ap (λ ms. slice_set ms c.args.k (record (marker_at ms c.args.k) { spot = spot_of (Some c.in-Some.spot) })) (c.enter.ensures.left c.if-not-enter.true ∙ c.leave.ensures)
    ∙ set_back c.args.self.now c.args.k (spot_of (Some c.in-Some.spot)) c.requires c.in-Some.ensures

pub returns-else-not-enter : goal.returns-else-not-enter
returns-else-not-enter c =
    c.enter.ensures.put c.if-not-enter.false
    ∙ ap (λ ms. slice_set ms c.args.k (record (marker_at ms c.args.k) { spot = spot_of (Some c.in-Some.spot) })) c.leave.ensures
    ∙ set_back c.args.self.now c.args.k (spot_of (Some c.in-Some.spot)) c.requires c.in-Some.ensures
