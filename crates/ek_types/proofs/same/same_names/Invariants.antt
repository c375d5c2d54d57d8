use Rattle.std.proofs.Common.{◌≡◌, length, drop, map}
use Rattle.std.specs.Prelude.{◌==◌}
use Rattle.text_model.specs.Properties.{same_list}
use Rattle.ek_types.specs.Property.{number_of}
use Rattle.ek_types.specs.Listing.{items_of}
use Rattle.ek_types.proofs.same.same_names.Given as goal

abbrev pub invariant-loop-i : goal.invariant-loop-i
invariant-loop-i l =
    (same_list (λ x y. x == y) (drop l.i (map number_of (items_of l.a))) (drop l.i (map number_of (items_of l.b))) ≡ same_list (λ x y. x == y) (map number_of (items_of l.a)) (map number_of (items_of l.b)))
    × (length (items_of l.a) ≡ length (items_of l.b))
