-- Calls on overlays. The symbols: 2 is evaporate, 3 priority, 20 face.
use Rattle.std.specs.Prelude.{◌≡◌, [], ◌∷◌, codes}
use Rattle.std.proofs.Common.{refl}
use Rattle.text_model.specs.Properties.{Symbol}
use Rattle.editor_model.specs.Values.{Nil, T, Sym, Str, TheOverlay, list, Refused, Prim, ArgsOutOfRange, NoSuchBuffer}
use Rattle.worked_rows.specs.Row.{with_set, text}
use Rattle.worked_rows.proofs.Doing.{Calls, answers, num, is, yes, no}

-- which stand where
abbrev ends_calls : Calls
ends_calls =
    (Prim.Insert, text (codes "abc") ∷ []) ∷
    (Prim.MakeOverlay, num 2 ∷ num 2 ∷ []) ∷
    (Prim.MakeOverlay, num 1 ∷ num 3 ∷ []) ∷
    (Prim.MakeOverlay, num 4 ∷ num 4 ∷ []) ∷
    (Prim.OverlaysIn, num 2 ∷ num 4 ∷ []) ∷
    (Prim.OverlaysAt, num 2 ∷ []) ∷
    (Prim.NextOverlayChange, num 1 ∷ []) ∷
    (Prim.PreviousOverlayChange, num 4 ∷ []) ∷
    (Prim.PreviousOverlayChange, num 1 ∷ []) ∷
    (Prim.OverlaysAt, num 0 ∷ []) ∷
    (Prim.NextOverlayChange, num 0 ∷ []) ∷ []

pub ends : answers [] ends_calls ≡ no ∷ is (TheOverlay 0) ∷ is (TheOverlay 1) ∷ is (TheOverlay 2) ∷ is (list (TheOverlay 0 ∷ TheOverlay 1 ∷ TheOverlay 2 ∷ [])) ∷ is (list (TheOverlay 1 ∷ [])) ∷ is (num 2) ∷ is (num 3) ∷ is (num 1) ∷ no ∷ is (num 1) ∷ []
ends = refl

-- empty overlays at an insertion
abbrev empty_ones_calls : Calls
empty_ones_calls =
    (Prim.Insert, text (codes "abcd") ∷ []) ∷
    (Prim.MakeOverlay, num 3 ∷ num 3 ∷ Nil ∷ Nil ∷ Nil ∷ []) ∷
    (Prim.MakeOverlay, num 3 ∷ num 3 ∷ Nil ∷ Nil ∷ T ∷ []) ∷
    (Prim.MakeOverlay, num 3 ∷ num 3 ∷ Nil ∷ T ∷ T ∷ []) ∷
    (Prim.MakeOverlay, num 3 ∷ num 3 ∷ Nil ∷ T ∷ Nil ∷ []) ∷
    (Prim.GotoChar, num 3 ∷ []) ∷
    (Prim.Insert, text (codes "xy") ∷ []) ∷
    (Prim.OverlayStart, TheOverlay 0 ∷ []) ∷
    (Prim.OverlayEnd, TheOverlay 0 ∷ []) ∷
    (Prim.OverlayStart, TheOverlay 1 ∷ []) ∷
    (Prim.OverlayEnd, TheOverlay 1 ∷ []) ∷
    (Prim.OverlayStart, TheOverlay 2 ∷ []) ∷
    (Prim.OverlayEnd, TheOverlay 2 ∷ []) ∷
    (Prim.OverlayStart, TheOverlay 3 ∷ []) ∷
    (Prim.OverlayEnd, TheOverlay 3 ∷ []) ∷ []

pub empty_ones : answers [] empty_ones_calls ≡ no ∷ is (TheOverlay 0) ∷ is (TheOverlay 1) ∷ is (TheOverlay 2) ∷ is (TheOverlay 3) ∷ is (num 3) ∷ no ∷ is (num 3) ∷ is (num 3) ∷ is (num 3) ∷ is (num 5) ∷ is (num 5) ∷ is (num 5) ∷ is (num 3) ∷ is (num 3) ∷ []
empty_ones = refl

-- evaporating overlays
abbrev evaporating_calls : Calls
evaporating_calls =
    (Prim.Insert, text (codes "abcd") ∷ []) ∷
    (Prim.MakeOverlay, num 2 ∷ num 4 ∷ []) ∷
    (Prim.OverlayPut, TheOverlay 0 ∷ Sym 2 ∷ T ∷ []) ∷
    (Prim.MakeOverlay, num 1 ∷ num 3 ∷ []) ∷
    (Prim.OverlayPut, TheOverlay 1 ∷ Sym 2 ∷ T ∷ []) ∷
    (Prim.DeleteRegion, num 2 ∷ num 4 ∷ []) ∷
    (Prim.OverlayBuffer, TheOverlay 0 ∷ []) ∷
    (Prim.OverlayEnd, TheOverlay 1 ∷ []) ∷
    (Prim.MoveOverlay, TheOverlay 0 ∷ num 9 ∷ num 1 ∷ text (codes "no") ∷ []) ∷
    (Prim.MoveOverlay, TheOverlay 0 ∷ num 9 ∷ num 1 ∷ []) ∷
    (Prim.OverlayEnd, TheOverlay 0 ∷ []) ∷
    (Prim.MoveOverlay, TheOverlay 0 ∷ num 1 ∷ num 1 ∷ []) ∷
    (Prim.OverlayProperties, TheOverlay 0 ∷ []) ∷
    (Prim.DeleteOverlay, TheOverlay 1 ∷ []) ∷
    (Prim.OverlayStart, TheOverlay 1 ∷ []) ∷ []

pub evaporating : answers [] evaporating_calls ≡ no ∷ is (TheOverlay 0) ∷ yes ∷ is (TheOverlay 1) ∷ yes ∷ no ∷ no ∷ is (num 2) ∷ Refused NoSuchBuffer ∷ is (TheOverlay 0) ∷ is (num 3) ∷ is (TheOverlay 0) ∷ is (list (Sym 2 ∷ T ∷ [])) ∷ no ∷ no ∷ []
evaporating = refl

-- priorities
abbrev winners_calls : Calls
winners_calls =
    (Prim.Insert, Str (with_set ((20, Symbol 21) ∷ []) (codes "abcd")) ∷ []) ∷
    (Prim.MakeOverlay, num 1 ∷ num 5 ∷ []) ∷
    (Prim.OverlayPut, TheOverlay 0 ∷ Sym 20 ∷ Sym 22 ∷ []) ∷
    (Prim.MakeOverlay, num 2 ∷ num 4 ∷ []) ∷
    (Prim.OverlayPut, TheOverlay 1 ∷ Sym 20 ∷ Sym 23 ∷ []) ∷
    (Prim.GetCharProperty, num 2 ∷ Sym 20 ∷ []) ∷
    (Prim.OverlayPut, TheOverlay 0 ∷ Sym 3 ∷ num 1 ∷ []) ∷
    (Prim.GetCharProperty, num 2 ∷ Sym 20 ∷ []) ∷
    (Prim.GetCharProperty, num 5 ∷ Sym 20 ∷ []) ∷
    (Prim.GetCharProperty, num 6 ∷ Sym 20 ∷ []) ∷ []

pub winners : answers [] winners_calls ≡ no ∷ is (TheOverlay 0) ∷ is (Sym 22) ∷ is (TheOverlay 1) ∷ is (Sym 23) ∷ is (Sym 23) ∷ is (num 1) ∷ is (Sym 22) ∷ no ∷ Refused ArgsOutOfRange ∷ []
winners = refl
