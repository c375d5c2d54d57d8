use Rattle.std.proofs.Common.{ap, ◌∙◌, map, option_map}
use Rattle.std.specs.Prelude.{◌==◌}
use Rattle.std.proofs.lemmas.Bool.{eq-eqb, ne_eqb}
use Rattle.std.proofs.lemmas.Option.{slice_get-map}
use Rattle.ek_types.specs.Property.{number_of}
use Rattle.ek_types.specs.Listing.{items_of}
use Rattle.ek_types.proofs.InOrder.{differ_at, agree_at}
use Rattle.ek_types.proofs.same.same_names.Goals as goal

pub returns-then-at : goal.returns-then-at
returns-then-at c =
    differ_at (λ x y. x == y) (map number_of (items_of c.args.a.now)) (map number_of (items_of c.args.b.now)) c.loop-i.i _ _ _
    (slice_get-map number_of (items_of c.args.a.now) c.loop-i.i ∙ ap (option_map number_of) c.at.ensures) (slice_get-map number_of (items_of c.args.b.now) c.loop-i.i ∙ ap (option_map number_of) c.at-in-loop-i.ensures)
    (ne_eqb _ _ c.if-at.true) c.loop-i.invariant.0

pub loop-i-preserved : goal.loop-i-preserved
loop-i-preserved c = (
  agree_at (λ x y. x == y) (map number_of (items_of c.args.a.now)) (map number_of (items_of c.args.b.now)) c.loop-i.i _ _ _
      (slice_get-map number_of (items_of c.args.a.now) c.loop-i.i ∙ ap (option_map number_of) c.at.ensures) (slice_get-map number_of (items_of c.args.b.now) c.loop-i.i ∙ ap (option_map number_of) c.at-in-loop-i.ensures)
      (eq-eqb _ _ c.if-at.false) c.loop-i.invariant.0,
  c.loop-i.invariant.1,
)
