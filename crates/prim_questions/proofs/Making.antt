-- A marker that is made, set and said to advance or not, one after the other.
use Rattle.std.proofs.Common.{◌≡◌, ℕ, Bool, List, [], ◌∷◌, ◌++◌, length, refl, sym, ap, subst, ◌∙◌}
use Rattle.std.specs.Prelude.{Option, Some, None, IfSome, slice_get, slice_set, unwrap_or}
use Rattle.text_model.specs.Marks.{Marker, Spot}
use Rattle.marker_set.specs.Numbered.{nowhere}
use Rattle.editor_model.specs.Editor.{Editor, with_marker, change_marker, set_marker_spot}
use Rattle.buffer_table.specs.Places.{IsPlace}

get_last : {A : Type 0} (xs : List A) (x : A) → slice_get (xs ++ x ∷ []) (length xs) ≡ Some x
get_last [] x = refl
get_last (y ∷ xs) x = get_last xs x

set_last : {A : Type 0} (xs : List A) (x y : A) → slice_set (xs ++ x ∷ []) (length xs) y ≡ xs ++ y ∷ []
set_last [] x y = refl
set_last (z ∷ xs) x y = ap (λ ys. z ∷ ys) (set_last xs x y)

change_last : (ms : List Marker) (x : Marker) (f : Marker → Marker) → slice_set (ms ++ x ∷ []) (length ms) (f (unwrap_or (slice_get (ms ++ x ∷ []) (length ms)) nowhere)) ≡ ms ++ f x ∷ []
change_last ms x f = ap (λ o. slice_set (ms ++ x ∷ []) (length ms) (f (unwrap_or o nowhere))) (get_last ms x) ∙ set_last ms x (f x)

pub made : (e : Editor) (k : ℕ) (spot : Option Spot) (on : Bool) → k ≡ length e.marks.markers → change_marker k (λ m. record m { advances = on }) (set_marker_spot k spot (with_marker nowhere e)) ≡ with_marker (record { spot = spot; advances = on }) e
made e k spot on h =
    let ms = e.marks.markers in
    let at : Editor → ℕ → Editor = λ (x : Editor) (j : ℕ). change_marker j (λ m. record m { advances = on }) (set_marker_spot j spot x) in
    let placed : Marker = record { spot = spot; advances = nowhere.advances } in
    ap (at (with_marker nowhere e)) h
    ∙ ap (λ (l : List Marker). let x : Editor = record e { marks = record e.marks { markers = slice_set l (length ms) (let m : Marker = record (unwrap_or (slice_get l (length ms)) nowhere) { advances = on } in m) } } in x) (change_last ms nowhere (λ m. record m { spot = spot }))
    ∙ ap (λ (l : List Marker). let x : Editor = record e { marks = record e.marks { markers = l } } in x) (change_last ms placed (λ m. record m { advances = on }))

-- the places of a text stay where a marker is made
pub still_places : (e new : Editor) (to : Option (ℕ × ℕ)) → new ≡ with_marker nowhere e → IfSome to (λ p. IsPlace e p.0 p.1) → IfSome to (λ p. IsPlace new p.0 p.1)
still_places e new None h places = tt
still_places e new (Some p) h places = subst (λ (x : Editor). IsPlace x p.0 p.1) (sym h) (record { live = places.live; within = places.within })
