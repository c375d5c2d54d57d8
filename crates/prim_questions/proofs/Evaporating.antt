-- Overlays that are changed, and taken out of their buffers where they are empty and evaporate.
use Rattle.std.proofs.Common.{◌≡◌, ℕ, zero, suc, ◌<◌, ◌≤◌, true, false, List, [], ◌∷◌, length, refl, sym, ap, ◌∙◌, arith, eq-eqb}
use Rattle.std.specs.Prelude.{◌&&◌, ◌==◌, if◌then◌else◌, Option, Some, None, is_some, slice_get, slice_set, unwrap_or}
use Rattle.std.proofs.lemmas.Bool.{and_from, and_right}
use Rattle.text_model.specs.Properties.{get}
use Rattle.text_model.specs.Marks.{Overlay, Span, evaporate}
use Rattle.editor_model.specs.Editor.{Editor, overlay_of, change_overlay}
use Rattle.editor_model.specs.OverlayCalls.{kept}
use Rattle.prim_questions.specs.Overlays.{vanishes}

-- ONE OVERLAY
kept_gone : (o : Overlay) → vanishes o ≡ true → (let x : Overlay = record o { span = None } in x) ≡ kept o
kept_gone o h = go o.span h
  where
    go : (s : Option Span) → vanishes (record o { span = s }) ≡ true → (let x : Overlay = record o { span = None } in x) ≡ kept (record o { span = s })
    go None h = cc
    go (Some s) h = ap (λ b. let x : Overlay = record o { span = if b then None else Some s } in x) (sym (and_from (s.buffer == s.buffer) ((s.start == s.end) && is_some (get o.props evaporate)) (eq-eqb s.buffer s.buffer refl) h))

kept_stays : (o : Overlay) → vanishes o ≡ false → o ≡ kept o
kept_stays o h = go o.span h
  where
    go : (s : Option Span) → vanishes (record o { span = s }) ≡ false → (let x : Overlay = record o { span = s } in x) ≡ kept (record o { span = s })
    go None h = refl
    go (Some s) h = ap (λ b. let x : Overlay = record o { span = if b then None else Some s } in x) (sym (and_right (s.buffer == s.buffer) ((s.start == s.end) && is_some (get o.props evaporate)) h))

-- ALL OVERLAYS
set_own : {A : Type 0} (xs : List A) (k : ℕ) (d : A) → slice_set xs k (unwrap_or (slice_get xs k) d) ≡ xs
set_own [] k d = refl
set_own (x ∷ xs) zero d = refl
set_own (x ∷ xs) (suc k) d = ap (λ ys. x ∷ ys) (set_own xs k d)

set_twice : {A : Type 0} (xs : List A) (k : ℕ) (x y : A) → slice_set (slice_set xs k x) k y ≡ slice_set xs k y
set_twice [] k x y = refl
set_twice (z ∷ xs) zero x y = refl
set_twice (z ∷ xs) (suc k) x y = ap (λ ys. z ∷ ys) (set_twice xs k x y)

get_set : {A : Type 0} (xs : List A) (k : ℕ) (x d : A) → k < length xs → unwrap_or (slice_get (slice_set xs k x) k) d ≡ x
get_set [] k x d l = absurd (omega arith)
get_set (z ∷ xs) zero x d l = refl
get_set (z ∷ xs) (suc k) x d l = get_set xs k x d (omega arith)

set_past : {A : Type 0} (xs : List A) (k : ℕ) (x : A) → length xs ≤ k → slice_set xs k x ≡ xs
set_past [] k x l = refl
set_past (z ∷ xs) zero x l = absurd (omega arith)
set_past (z ∷ xs) (suc k) x l = ap (λ ys. z ∷ ys) (set_past xs k x (omega arith))

pub gone : (e : Editor) (k : ℕ) → vanishes (overlay_of e k) ≡ true → change_overlay k (λ old. record old { span = None }) e ≡ change_overlay k kept e
gone e k h = ap (λ (o : Overlay). let x : Editor = record e { marks = record e.marks { overlays = slice_set e.marks.overlays k o } } in x) (kept_gone (overlay_of e k) h)

pub stays : (e : Editor) (k : ℕ) → vanishes (overlay_of e k) ≡ false → e ≡ change_overlay k kept e
stays e k h =
    let none : Overlay = record { span = None; front_advance = false; rear_advance = false; props = [] } in
    ap (λ (os : List Overlay). let x : Editor = record e { marks = record e.marks { overlays = os } } in x) (sym (set_own e.marks.overlays k none))
    ∙ ap (λ (o : Overlay). let x : Editor = record e { marks = record e.marks { overlays = slice_set e.marks.overlays k o } } in x) (kept_stays (overlay_of e k) h)

-- two changes of one overlay are one
pub twice : (e : Editor) (k : ℕ) (f g : Overlay → Overlay) → k < length e.marks.overlays → change_overlay k g (change_overlay k f e) ≡ change_overlay k (λ o. g (f o)) e
twice e k f g l =
    let os = e.marks.overlays in
    let none : Overlay = record { span = None; front_advance = false; rear_advance = false; props = [] } in
    ap (λ (o : Overlay). let x : Editor = record e { marks = record e.marks { overlays = slice_set (slice_set os k (f (overlay_of e k))) k (g o) } } in x) (get_set os k (f (overlay_of e k)) none l)
    ∙ ap (λ (l : List Overlay). let x : Editor = record e { marks = record e.marks { overlays = l } } in x) (set_twice os k (f (overlay_of e k)) (g (f (overlay_of e k))))

-- an overlay that was never made isn't changed
pub nowhere : (e : Editor) (k : ℕ) (f : Overlay → Overlay) → length e.marks.overlays ≤ k → e ≡ change_overlay k f e
nowhere e k f l = ap (λ (os : List Overlay). let x : Editor = record e { marks = record e.marks { overlays = os } } in x) (sym (set_past e.marks.overlays k (f (overlay_of e k)) l))
