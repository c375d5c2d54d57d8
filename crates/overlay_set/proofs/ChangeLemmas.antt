-- Changes of a list of entries, part by part.
use Rattle.std.proofs.Common.{◌≡◌, ℕ, Bool, true, false, nat_lt, nat_le, ◌==◌, ◌&&◌, ◌||◌, List, [], ◌∷◌, ◌++◌, map, All, refl, ap, sym, ◌∙◌}
use Rattle.std.specs.List.{flat_map}
use Rattle.std.proofs.lemmas.Bool.{or_parts, lt-ltb, le-leb, leb-false, ltb-false}
use Rattle.text_model.specs.Places.{after_insert, after_delete}
use Rattle.overlay_set.proofs.Parts.{flat_map_same}
use Rattle.overlay_set.proofs.Lists.{alike}
use Rattle.std.proofs.lemmas.List.Elements.{All-head, All-tail, All-weaker}
use Rattle.std.proofs.lemmas.Grind.{flat_map-append}
use Rattle.text_model.specs.Marks.{Overlay, start_advances}
use Rattle.overlay_set.specs.Numbered.{overlay_at, span_at}
use Rattle.overlay_set.specs.Slots.{with_span, moved_by, bare_of, bare}
use Rattle.overlay_set.specs.Entries.{entry_of, raised}
use Rattle.overlay_set.specs.Moves.{can_touch, touches, moved_entry}
use Rattle.overlay_set.specs.declared.slot.Slot.{Slot}
use Rattle.overlay_set.specs.declared.slot.Change.{Change}
use Rattle.overlay_set.specs.declared.slot.Change.TheVariants.{Insertion, Deletion, Killed}
use Rattle.overlay_set.specs.declared.bounds.Entry.{Entry}

-- three parts moved
pub moved_three : (b : ℕ) (change : Change) (os : List Overlay) (xs : List Entry) (e : Entry) (ys xs' es' ys' : List Entry) → xs' ≡ flat_map (moved_entry b change os) xs → es' ≡ moved_entry b change os e → ys' ≡ flat_map (moved_entry b change os) ys →
    xs' ++ (es' ++ ys') ≡ flat_map (moved_entry b change os) (xs ++ e ∷ ys)
moved_three b change os xs e ys xs' es' ys' p q r = rw (p, q, r) (sym (flat_map-append (moved_entry b change os) xs (e ∷ ys)))

-- where slots have what overlays have besides their stretches, entries move alike by both
pub moved_alike : (b : ℕ) (change : Change) (slots : List Slot) (os : List Overlay) (es : List Entry) → map bare_of slots ≡ map bare os → flat_map (moved_entry b change (map bare_of slots)) es ≡ flat_map (moved_entry b change os) es
moved_alike b change slots os [] h = refl
moved_alike b change slots os (e ∷ es) h =
    ap (λ (o : Overlay). entry_of e.number (moved_by b change o).span ++ flat_map (moved_entry b change (map bare_of slots)) es) (alike slots os e.number e.stretch h)
    ∙ ap (λ xs. moved_entry b change os e ++ xs) (moved_alike b change slots os es h)

-- NOTHING TOUCHED
stays_insert : (at n : ℕ) (advances : Bool) (place : ℕ) → nat_le at place ≡ false → after_insert at n advances place ≡ place
stays_insert at n advances place h = let behind : nat_lt place at ≡ true = lt-ltb place at (leb-false at place h) in rw behind refl

stays_delete : (from to place : ℕ) → nat_lt from place ≡ false → after_delete from to place ≡ place
stays_delete from to place h = let before : nat_le place from ≡ true = le-leb place from (ltb-false from place h) in rw before refl

pub stays : (b : ℕ) (change : Change) (o : Overlay) (s : ℕ × ℕ × ℕ) → ((s.0 == b) && can_touch change s.1 s.2) ≡ false → moved_by b change (with_span o s) ≡ with_span o s
stays b change o s h = by_buffer (s.0 == b) refl
  where
    here : (c : Change) → (s.0 == b) ≡ true → can_touch c s.1 s.2 ≡ false → moved_by b c (with_span o s) ≡ with_span o s
    here (Insertion at n all) own free =
        let two = or_parts (nat_le at s.1) (nat_le at s.2) free in
        rw (own, stays_insert at n (start_advances all o (span_at s)) s.1 two.0, stays_insert at n (o.rear_advance || all) s.2 two.1) refl
    here (Deletion from to) own free =
        let two = or_parts (nat_lt from s.1) (nat_lt from s.2 || (s.1 == s.2)) free in
        let three = or_parts (nat_lt from s.2) (s.1 == s.2) two.1 in
        rw (own, stays_delete from to s.1 two.0, stays_delete from to s.2 three.0, own, three.1) refl
    here Killed own free = let f : true ≡ false = free in cc

    away : (c : Change) → (s.0 == b) ≡ false → moved_by b c (with_span o s) ≡ with_span o s
    away (Insertion at n all) other = rw other refl
    away (Deletion from to) other = rw (other, other) refl
    away Killed other = rw other refl

    by_buffer : (t : Bool) → (s.0 == b) ≡ t → moved_by b change (with_span o s) ≡ with_span o s
    by_buffer true own = here change own (let e : ((s.0 == b) && can_touch change s.1 s.2) ≡ can_touch change s.1 s.2 = rw own refl in sym e ∙ h)
    by_buffer false other = away change other

pub bare_moved : (b : ℕ) (change : Change) (os : List Overlay) → map bare (map (moved_by b change) os) ≡ map bare os
bare_moved b change [] = refl
bare_moved b change (o ∷ os) = ap (λ p. p ∷ map bare (map (moved_by b change) os)) (one change) ∙ ap (λ ps. bare o ∷ ps) (bare_moved b change os)
  where
    one : (c : Change) → bare (moved_by b c o) ≡ bare o
    one (Insertion at n all) = refl
    one (Deletion from to) = refl
    one Killed = refl

pub untouched_one : (b : ℕ) (change : Change) (os : List Overlay) (e : Entry) → touches b change e ≡ false → moved_entry b change os e ≡ e ∷ []
untouched_one b change os e h = ap (λ (o : Overlay). entry_of e.number o.span) (stays b change (overlay_at os e.number) e.stretch h)

pub untouched : (b : ℕ) (change : Change) (os : List Overlay) (es : List Entry) → All (λ e. touches b change e ≡ false) es → es ≡ flat_map (moved_entry b change os) es
untouched b change os es h = sym (flat_map_same (moved_entry b change os) es (All-weaker (λ e. touches b change e ≡ false) (λ e. moved_entry b change os e ≡ e ∷ []) (λ e k. untouched_one b change os e k) es h))

-- ALL MOVED ALIKE
carried_one : (b : ℕ) (change : Change) (by : ℕ) (os : List Overlay) (e : Entry) → ((o : Overlay) → moved_by b change (with_span o e.stretch) ≡ with_span o (raised by e).stretch) → raised by e ∷ [] ≡ moved_entry b change os e
carried_one b change by os e h = ap (λ (o : Overlay). entry_of e.number o.span) (sym (h (overlay_at os e.number)))

pub carried : (b : ℕ) (change : Change) (by : ℕ) (os : List Overlay) (es : List Entry) → All (λ e. (o : Overlay) → moved_by b change (with_span o e.stretch) ≡ with_span o (raised by e).stretch) es → map (raised by) es ≡ flat_map (moved_entry b change os) es
carried b change by os [] h = refl
carried b change by os (e ∷ es) h =
    rw (carried b change by os es (All-tail (λ e. (o : Overlay) → moved_by b change (with_span o e.stretch) ≡ with_span o (raised by e).stretch) e es h))
    (ap (λ xs. xs ++ flat_map (moved_entry b change os) es) (carried_one b change by os e (All-head (λ e. (o : Overlay) → moved_by b change (with_span o e.stretch) ≡ with_span o (raised by e).stretch) e es h)))
