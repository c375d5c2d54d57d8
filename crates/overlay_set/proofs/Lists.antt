-- Overlays by number, and what stays of them without their stretches.
use Rattle.std.proofs.Common.{◌≡◌, ℕ, zero, suc, ◌<◌, List, [], ◌∷◌, length, map, get_or, slice_set, refl, ap, sym, ◌∙◌, arith}
use Rattle.std.proofs.lemmas.List.{map-set, length-map, get_or-set_same, get_or-map}
use Rattle.std.proofs.lemmas.Option.{unwrap_or-slice_get}
use Rattle.text_model.specs.Marks.{Overlay}
use Rattle.overlay_set.specs.Numbered.{no_overlay, overlay_at}
use Rattle.overlay_set.specs.Slots.{bare_of, bare, with_span}
use Rattle.overlay_set.specs.declared.slot.Slot.{Slot}

pub overlay_at-get_or : (os : List Overlay) (k : ℕ) → overlay_at os k ≡ get_or os k no_overlay
overlay_at-get_or os k = unwrap_or-slice_get os k no_overlay

pub overlay_at_set : (os : List Overlay) (k : ℕ) (o : Overlay) → k < length os → overlay_at (slice_set os k o) k ≡ o
overlay_at_set os k o h = overlay_at-get_or (slice_set os k o) k ∙ get_or-set_same os k o no_overlay h

-- WITHOUT STRETCHES
pub bare_set : (slots : List Slot) (os : List Overlay) (k : ℕ) (new : Slot) (o : Overlay) → map bare_of slots ≡ map bare os → bare_of new ≡ bare o → map bare_of (slice_set slots k new) ≡ map bare (slice_set os k o)
bare_set slots os k new o h same =
    map-set bare_of slots k new ∙ ap (λ xs. slice_set xs k (bare_of new)) h ∙ ap (slice_set (map bare os) k) same ∙ sym (map-set bare os k o)

pub bare_kept : (os : List Overlay) (k : ℕ) (o : Overlay) → k < length os → bare o ≡ bare (overlay_at os k) → map bare (slice_set os k o) ≡ map bare os
bare_kept [] k o h e = refl
bare_kept (p ∷ os) zero o h e = ap (λ q. q ∷ map bare os) e
bare_kept (p ∷ os) (suc k) o h e = ap (λ ps. bare p ∷ ps) (bare_kept os k o (omega arith) e)

bare_alike : (os : List Overlay) (k : ℕ) (s : ℕ × ℕ × ℕ) → with_span (overlay_at (map bare os) k) s ≡ with_span (overlay_at os k) s
bare_alike [] k s = refl
bare_alike (o ∷ os) zero s = refl
bare_alike (o ∷ os) (suc k) s = bare_alike os k s

pub alike : (slots : List Slot) (os : List Overlay) (k : ℕ) (s : ℕ × ℕ × ℕ) → map bare_of slots ≡ map bare os → with_span (overlay_at (map bare_of slots) k) s ≡ with_span (overlay_at os k) s
alike slots os k s h = ap (λ xs. with_span (overlay_at xs k) s) h ∙ bare_alike os k s

-- the slot that was read is the overlay of that number, but for the stretch
pub bare_at : (slots : List Slot) (os : List Overlay) (k : ℕ) (slot : Slot) → map bare_of slots ≡ map bare os → k < length os → slot ≡ get_or slots k slot → bare (overlay_at os k) ≡ bare_of slot
bare_at slots os k slot seen within read =
    let inside : k < length slots = omega (arith, length-map slots bare_of, length-map os bare, ap length seen) in
    ap bare (overlay_at-get_or os k)
    ∙ sym (get_or-map bare os k no_overlay no_overlay within)
    ∙ ap (λ xs. get_or xs k no_overlay) (sym seen)
    ∙ get_or-map bare_of slots k slot no_overlay inside
    ∙ ap bare_of (sym read)

pub slot_at : (slots : List Slot) (k : ℕ) (slot : Slot) → k < length slots → slot ≡ get_or slots k slot → overlay_at (map bare_of slots) k ≡ bare_of slot
slot_at slots k slot within read = overlay_at-get_or (map bare_of slots) k ∙ get_or-map bare_of slots k slot no_overlay within ∙ ap bare_of (sym read)
