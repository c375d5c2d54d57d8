-- Which overlays stand where.
use Rattle.std.proofs.Common.{◌≡◌, ℕ, zero, suc, ◌+◌, ◌-◌, ◌<◌, Bool, true, false, List, [], ◌∷◌, map, refl, ap, subst, ◌∙◌, arith}
use Rattle.std.specs.Prelude.{◌==◌, nat_le, nat_lt, if◌then◌else◌, min, max, filter, Option, Some, None, is_some, slice_get, option_map, unwrap_or}
use Rattle.std.specs.List.{enumerate_from}
use Rattle.std.proofs.lemmas.Option.{same_Some}
use Rattle.std.proofs.lemmas.Bool.{lt-leb, and_left, and_right}
use Rattle.text_model.specs.Properties.{PropSet, get}
use Rattle.text_model.specs.Marks.{Overlay, Span}
use Rattle.text_model.specs.OverlayQuestions.{overlays_where, span_passes, covers, lies_within, winner, greater, greatest_of, outranks}
use Rattle.editor_model.specs.Values.{TheOverlay, list}
use Rattle.editor_model.specs.Editor.{Editor, overlay_of}
use Rattle.editor_model.specs.OverlayCalls.{overlay_values, char_property}
use Rattle.overlay_set.specs.Numbered.{numbers_of}

-- NO OVERLAY COVERS WHAT LIES BEFORE THE TEXT
before_all : (id : ℕ) (o : Option Span) → span_passes id (covers 0) o ≡ false
before_all id None = refl
before_all id (Some s) = and_right (s.buffer == id) (covers 0 s) (and_left (nat_le (s.start + 1) 0) (nat_lt 0 (s.end + 1)) (lt-leb (s.start + 1) 0 (omega arith)))

none_left : {A : Type 0} (t : A → Bool) (xs : List A) → ((x : A) → t x ≡ false) → filter t xs ≡ []
none_left t [] h = refl
none_left t (x ∷ xs) h = rw (h x) (none_left t xs h)

pub none_covers : (id : ℕ) (overlays : List Overlay) → overlays_where id (covers 0) overlays ≡ []
none_covers id overlays = none_left (λ o. span_passes id (covers 0) o.1.span) (enumerate_from 0 overlays) (λ o. before_all id o.1.span)

-- AS VALUES
pub as_values : (overlays : List (ℕ × Overlay)) → list (map TheOverlay (numbers_of overlays)) ≡ overlay_values overlays
as_values overlays = ap list (go overlays)
  where
    go : (os : List (ℕ × Overlay)) → map TheOverlay (numbers_of os) ≡ map (λ o. TheOverlay o.0) os
    go [] = refl
    go (o ∷ os) = ap (λ vs. TheOverlay o.0 ∷ vs) (go os)

-- THE WINNER IS ONE OF THE OVERLAYS
abbrev Each : {A : Type 0} → (A → Type 0) → List A → Type 0
Each P [] = Unit {0}
Each P (x ∷ xs) = P x × Each P xs

enumerated : (whole xs : List Overlay) (n : ℕ) → ((i : ℕ) → slice_get whole (n + i) ≡ slice_get xs i) → Each (λ o. slice_get whole o.0 ≡ Some o.1) (enumerate_from n xs)
enumerated whole [] n h = tt
enumerated whole (x ∷ xs) n h = (ap (slice_get whole) (let k : n ≡ n + 0 = omega arith in k) ∙ h 0, enumerated whole xs (n + 1) (λ i. ap (slice_get whole) (let k : n + 1 + i ≡ n + suc i = omega arith in k) ∙ h (suc i)))

filtered : {A : Type 0} (P : A → Type 0) (t : A → Bool) (xs : List A) → Each P xs → Each P (filter t xs)
filtered P t [] h = tt
filtered P t (x ∷ xs) h = go (t x) (filtered P t xs h.1)
  where
    go : (b : Bool) → Each P (filter t xs) → Each P (if b then x ∷ filter t xs else filter t xs)
    go true rest = (h.0, rest)
    go false rest = rest

one_of : (P : ℕ × Overlay → Type 0) (best : ℕ × Overlay) (xs : List (ℕ × Overlay)) (o : ℕ × Overlay) → P best → Each P xs → greatest_of (Some best) xs ≡ Some o → P o
one_of P best [] o p h e = subst P (same_Some best o e) p
one_of P best (x ∷ xs) o p h e = one_of P (greater (Some best) x) xs o (go (outranks x.1 best.1)) h.1 e
  where
    go : (b : Bool) → P (if b then x else best)
    go true = h.0
    go false = p

first_of_them : (P : ℕ × Overlay → Type 0) (xs : List (ℕ × Overlay)) (o : ℕ × Overlay) → Each P xs → greatest_of None xs ≡ Some o → P o
first_of_them P [] o h e = cc
first_of_them P (x ∷ xs) o h e = one_of P x xs o h.0 h.1 e

pub winner_stands : (id p name : ℕ) (overlays : List Overlay) (o : ℕ × Overlay) → winner id p name overlays ≡ Some o → slice_get overlays o.0 ≡ Some o.1
winner_stands id p name overlays o e =
    first_of_them (λ o. slice_get overlays o.0 ≡ Some o.1) (filter (λ o. is_some (get o.1.props name)) (overlays_where id (covers p) overlays)) o
    (filtered (λ o. slice_get overlays o.0 ≡ Some o.1) (λ o. is_some (get o.1.props name)) (overlays_where id (covers p) overlays)
    (filtered (λ o. slice_get overlays o.0 ≡ Some o.1) (λ o. span_passes id (covers p) o.1.span) (enumerate_from 0 overlays)
    (enumerated overlays overlays 0 (λ i. ap (slice_get overlays) (let k : 0 + i ≡ i = omega arith in k))))) e

-- the winner's value, and the text's where there is no winner
pub won : (e : Editor) (id p name k : ℕ) (set : PropSet) → Some k ≡ option_map (λ o. o.0) (winner id p name e.marks.overlays) → get (overlay_of e k).props name ≡ char_property (winner id p name e.marks.overlays) name set
won e id p name k set h = go (winner id p name e.marks.overlays) refl h
  where
    none : Overlay
    none = record { span = None; front_advance = false; rear_advance = false; props = [] }

    go : (w : Option (ℕ × Overlay)) → winner id p name e.marks.overlays ≡ w → Some k ≡ option_map (λ o. o.0) w → get (overlay_of e k).props name ≡ char_property w name set
    go None is h = cc
    go (Some o) is h =
        ap (λ (j : ℕ). get (unwrap_or (slice_get e.marks.overlays j) none).props name) (same_Some k o.0 h)
        ∙ ap (λ (x : Option Overlay). get (unwrap_or x none).props name) (winner_stands id p name e.marks.overlays o is)

pub not_won : (e : Editor) (id p name : ℕ) (set : PropSet) → None ≡ option_map (λ o. o.0) (winner id p name e.marks.overlays) → get set name ≡ char_property (winner id p name e.marks.overlays) name set
not_won e id p name set h = go (winner id p name e.marks.overlays) h
  where
    go : (w : Option (ℕ × Overlay)) → None ≡ option_map (λ o. o.0) w → get set name ≡ char_property w name set
    go None h = refl
    go (Some o) h = cc

-- POSITIONS AND PLACES
pub place_next : (p : ℕ) → (p == 0) ≡ false → p - 1 + 1 ≡ p
place_next zero h = cc
place_next (suc p) h = omega arith

pub first_next : (p q from : ℕ) → 0 < min p q → from ≡ min (p - 1) (q - 1) → from + 1 ≡ min p q
first_next p q from h e = omega arith

pub last_next : (p q to : ℕ) → 0 < min p q → to ≡ max (p - 1) (q - 1) → to + 1 ≡ max p q
last_next p q to h e = omega arith

pub same_part : (id i first b last l end e : ℕ) (overlays : List Overlay) → id ≡ i → first ≡ b → last ≡ l → end ≡ e
    → numbers_of (overlays_where id (lies_within first last end) overlays) ≡ numbers_of (overlays_where i (lies_within b l e) overlays)
same_part id i first b last l end e overlays h f k n =
    ap (λ (x : ℕ). numbers_of (overlays_where x (lies_within first last end) overlays)) h
    ∙ ap (λ (x : ℕ). numbers_of (overlays_where i (lies_within x last end) overlays)) f
    ∙ ap (λ (x : ℕ). numbers_of (overlays_where i (lies_within b x end) overlays)) k
    ∙ ap (λ (x : ℕ). numbers_of (overlays_where i (lies_within b l x) overlays)) n
