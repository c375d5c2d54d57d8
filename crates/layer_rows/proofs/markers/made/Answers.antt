use Rattle.std.proofs.Common.{◌≡◌, ℕ, Bool, false, List, [], ◌∷◌, ◌++◌, length, slice_set, Option, refl, ap, ◌∙◌}
use Rattle.std.proofs.lemmas.List.{set_at}
use Rattle.text_model.specs.Marks.{Marker, Spot}
use Rattle.marker_set.specs.Numbered.{nowhere, marker_at}
use Rattle.layer_rows.proofs.markers.made.Goals as goal

marker_at_last : (old : List Marker) (m : Marker) → marker_at (old ++ m ∷ []) (length old) ≡ m
marker_at_last [] m = refl
marker_at_last (o ∷ old) m = marker_at_last old m

-- the last marker is pointed to a place, and then told whether it advances
set_twice : (old : List Marker) (spot : Option Spot) (advances : Bool) (made placed told : List Marker) (k : ℕ) → k ≡ length old → made ≡ old ++ nowhere ∷ [] → placed ≡ slice_set made k (record (marker_at made k) { spot = spot }) → told ≡ slice_set placed k (record (marker_at placed k) { advances = advances }) → told ≡ old ++ record { spot = spot; advances = advances } ∷ []
set_twice old spot advances made placed told k at m p t =
    let first : placed ≡ old ++ record { spot = spot; advances = false } ∷ [] =
    p ∙ ap (λ ms. slice_set ms k (record (marker_at ms k) { spot = spot })) m
    ∙ ap (λ i. slice_set (old ++ nowhere ∷ []) i (record (marker_at (old ++ nowhere ∷ []) i) { spot = spot })) at
    ∙ ap (λ m. slice_set (old ++ nowhere ∷ []) (length old) (record m { spot = spot })) (marker_at_last old nowhere)
    ∙ set_at old nowhere [] (record { spot = spot; advances = false }) (length old) refl in
    let middle : Marker = record { spot = spot; advances = false } in
    t ∙ ap (λ ms. slice_set ms k (record (marker_at ms k) { advances = advances })) first
    ∙ ap (λ i. slice_set (old ++ middle ∷ []) i (record (marker_at (old ++ middle ∷ []) i) { advances = advances })) at
    ∙ ap (λ m. slice_set (old ++ middle ∷ []) (length old) (record m { advances = advances })) (marker_at_last old middle)
    ∙ set_at old middle [] (record { spot = spot; advances = advances }) (length old) refl

pub returns-clause-marker : goal.returns-clause-marker
returns-clause-marker c =
    set_twice c.args.markers.now _ c.args.after c.make.new.self c.set.new.self c.set_kind.new.self c.in_ok-k.k c.in_ok-k.ensures.number c.in_ok-k.ensures.ok c.set.ensures c.set_kind.ensures
