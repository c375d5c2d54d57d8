-- Marks change, and the texts stay.
use Rattle.std.proofs.Common.{◌≡◌, ◌⊎◌, ℕ, zero, suc, ◌≤◌, Bool, true, List, [], ◌∷◌, ◌++◌, All, Option, Some, None, Result, Ok, Err, length, refl, sym, subst, inl, inr, arith}
use Rattle.std.specs.Prelude.{IfSome, IfNone, OnOk, OnErr, slice_get, unwrap_or}
use Rattle.std.proofs.lemmas.List.Elements.{All-push, All-head, All-tail}
use Rattle.text_model.specs.Marks.{Marks, Marker, Overlay, Saved}
use Rattle.editor_model.specs.Editor as shown
use Rattle.marker_set.specs.Numbered.{nowhere, marker_at, spot_of}
use Rattle.overlay_set.specs.Numbered.{overlay_at, span_at}
use Rattle.narrow_region.specs.Kept as kept
use Rattle.buffer_core.specs.Standing.{AreWithin, MarkerWithin, OverlayWithin, SavedWithin}
use Rattle.buffer_table.specs.Kept.{Named, Kept, Lives, IsKept, is_live, editor_of}
use Rattle.buffer_table.specs.Standing.{MarkerIn, OverlayIn, StandIn}
use Rattle.buffer_table.specs.Places.{IsPlace, IsKeptPlace}
use Rattle.buffer_table.proofs.KeptLemmas.{place_in, live_in}

-- a buffer that lives with this many characters, or a number that was not made yet, with none
abbrev pub Stands : Kept → (id size : ℕ) → Type 0
Stands k id size = ((n : Named) × Lives k.buffers id n × (length n.buffer.sets ≡ size)) ⊎ ((length k.buffers ≤ id) × (size ≡ 0))

pub marks_only : (k : Kept) (marks : Marks) → IsKept k → StandIn (is_live k.buffers) marks → ((id size : ℕ) → Stands k id size → AreWithin id size k.marks → AreWithin id size marks) → IsKept (record k { marks = marks })
marks_only k marks kept stand h =
    record {
      all = record {
        few = kept.all.few;
        names = kept.all.names;
        lie = kept.all.lie;
        apart = kept.all.apart;
        stand = stand;
        within = λ id n l. h id (length n.buffer.sets) (inl (n, l, refl)) (kept.all.within id n l);
        unmade = λ id l. h id 0 (inr (l, refl)) (kept.all.unmade id l);
        account = kept.all.account;
      };
      here = kept.here;
    }

-- whether a call was refused or not
pub made_or_not : {T E A : Type 0} (P : A → Type 0) (r : Result T E) (u a b : A) → OnOk r (u ≡ a) → OnErr r (u ≡ b) → P a → P b → P u
made_or_not P (Ok x) u a b ok err at_a at_b = subst P (sym ok) at_a
made_or_not P (Err x) u a b ok err at_a at_b = subst P (sym err) at_b

-- a place that a call is given
pub given_place : (k : Kept) (id other place size : ℕ) → Stands k other size → IsPlace (editor_of k) id place → id ≡ other → place ≤ size
given_place k id other place size (inl (n, lives, is_size)) p e =
    let l = (place_in k other place n lives (subst (λ i. place ≤ length (shown.buffer_at (editor_of k) i).text) e p.within)).1 in
    omega (arith, l, is_size)
given_place k id other place size (inr (unmade, none)) p e = absurd (not_made k.buffers other unmade (subst (λ i. is_live k.buffers i ≡ true) e (live_in k id p.live)))
  where
    not_made : (buffers : List (Option Named)) (i : ℕ) → length buffers ≤ i → is_live buffers i ≡ true → ⊥
    not_made [] i l h = cc
    not_made (x ∷ buffers) zero l h = absurd (omega arith)
    not_made (x ∷ buffers) (suc i) l h = not_made buffers i (omega arith) h

-- MARKERS
pub marker_made : (id size : ℕ) (ms : List Marker) → All (MarkerWithin id size) ms → All (MarkerWithin id size) (ms ++ nowhere ∷ [])
marker_made id size ms w = All-push (MarkerWithin id size) ms nowhere w tt

pub marker_placed : (k : Kept) (m : Marker) (to : Option (ℕ × ℕ)) (other size : ℕ) → Stands k other size → IfSome to (λ p. IsPlace (editor_of k) p.0 p.1) → MarkerWithin other size (record m { spot = spot_of to })
marker_placed k m None other size lives p = tt
marker_placed k m (Some at) other size lives p = λ e. given_place k at.0 other at.1 size lives p e

pub marker_put : (k : Kept) (m : Marker) (to : Option (ℕ × ℕ)) → IfSome to (λ p. IsPlace (editor_of k) p.0 p.1) → MarkerIn (is_live k.buffers) (record m { spot = spot_of to })
marker_put k m None p = tt
marker_put k m (Some at) p = live_in k at.0 p.live

pub marker_alike : (among : ℕ → Bool) (ms : List Marker) (j : ℕ) (after : Bool) → All (MarkerIn among) ms → MarkerIn among (record (marker_at ms j) { advances = after })
marker_alike among ms j after w = go (slice_get ms j) (same ms j w)
  where
    go : (o : Option Marker) → IfSome o (MarkerIn among) → MarkerIn among (record (unwrap_or o nowhere) { advances = after })
    go None h = tt
    go (Some m) h = h

    same : (xs : List Marker) (j : ℕ) → All (MarkerIn among) xs → IfSome (slice_get xs j) (MarkerIn among)
    same [] j h = tt
    same (x ∷ xs) zero h = All-head (MarkerIn among) x xs h
    same (x ∷ xs) (suc j) h = same xs j (All-tail (MarkerIn among) x xs h)

pub marker_like : (id size : ℕ) (ms : List Marker) (j : ℕ) (after : Bool) → All (MarkerWithin id size) ms → MarkerWithin id size (record (marker_at ms j) { advances = after })
marker_like id size ms j after w = go (slice_get ms j) (same ms j w)
  where
    go : (o : Option Marker) → IfSome o (MarkerWithin id size) → MarkerWithin id size (record (unwrap_or o nowhere) { advances = after })
    go None h = tt
    go (Some m) h = h

    same : (xs : List Marker) (j : ℕ) → All (MarkerWithin id size) xs → IfSome (slice_get xs j) (MarkerWithin id size)
    same [] j h = tt
    same (x ∷ xs) zero h = All-head (MarkerWithin id size) x xs h
    same (x ∷ xs) (suc j) h = same xs j (All-tail (MarkerWithin id size) x xs h)

-- OVERLAYS
pub overlay_placed : (k : Kept) (o : Overlay) (id from to other size : ℕ) → Stands k other size → from ≤ to → IsPlace (editor_of k) id to → OverlayWithin other size (record o { span = Some (span_at (id, from, to)) })
overlay_placed k o id from to other size lives order p = λ e. let l : to ≤ size = given_place k id other to size lives p e in (omega arith, l)

pub overlay_put : (k : Kept) (o : Overlay) (id from to : ℕ) → IsPlace (editor_of k) id to → OverlayIn (is_live k.buffers) (record o { span = Some (span_at (id, from, to)) })
overlay_put k o id from to p = live_in k id p.live

pub overlay_alike : (among : ℕ → Bool) (os : List Overlay) (j : ℕ) → All (OverlayIn among) os → OverlayIn among (overlay_at os j)
overlay_alike among [] j h = tt
overlay_alike among (x ∷ xs) zero h = All-head (OverlayIn among) x xs h
overlay_alike among (x ∷ xs) (suc j) h = overlay_alike among xs j (All-tail (OverlayIn among) x xs h)

pub overlay_found : (id size : ℕ) (os : List Overlay) (j : ℕ) → All (OverlayWithin id size) os → OverlayWithin id size (overlay_at os j)
overlay_found id size [] j h = tt
overlay_found id size (x ∷ xs) zero h = All-head (OverlayWithin id size) x xs h
overlay_found id size (x ∷ xs) (suc j) h = overlay_found id size xs j (All-tail (OverlayWithin id size) x xs h)

-- KEPT PLACES
pub saved_placed : (k : Kept) (s : Saved) (other size : ℕ) → Stands k other size → IsKeptPlace (editor_of k) s → SavedWithin other size s
saved_placed k s other size lives p = λ e. given_place k (kept.buffer_of s) other (kept.last_place s) size lives (record { live = p.live; within = p.within }) e

pub saved_popped : {A : Type 0} (id size : ℕ) (r : Option A) (f : A → Saved) (old new : List Saved) → IfSome r (λ s. old ≡ f s ∷ new) → IfNone r (new ≡ old) → All (SavedWithin id size) old → All (SavedWithin id size) new
saved_popped id size None f old new some none w = subst (All (SavedWithin id size)) (sym none) w
saved_popped id size (Some s) f old new some none w = All-tail (SavedWithin id size) (f s) new (subst (All (SavedWithin id size)) some w)
