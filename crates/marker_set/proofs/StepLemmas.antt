-- The steps of the program: a marker leaves its cell, or goes into one.
use Rattle.std.proofs.Common.{◌≡◌, ℕ, ◌<◌, inl, inr, Bool, List, length, map, get_or, slice_set, Option, Some, None, refl, ap, subst, sym, ◌∙◌}
use Rattle.std.proofs.lemmas.List.{get_or_read, set-get_or}
use Rattle.text_model.specs.Marks.{Marker, Spot}
use Rattle.marker_set.specs.Numbered.{marker_at}
use Rattle.marker_set.specs.Blocks.{Block, cell_at, Taken}
use Rattle.marker_set.specs.Homes.{no_block, no_slot, block_at, slot_at, owner_at, spot_at, marker_in, Kept}
use Rattle.marker_set.specs.declared.cell.Cell.{Cell}
use Rattle.marker_set.specs.declared.slot.Home.{Home}
use Rattle.marker_set.specs.declared.slot.Home.TheVariants.{Nowhere, Packed}
use Rattle.marker_set.specs.declared.slot.Slot.{Slot}
use Rattle.marker_set.proofs.BlockLemmas.{with_cells}
use Rattle.marker_set.proofs.HomeLemmas.{marker_of_slot, no_owner, same_part, same_cell, same_number, cell_within, part_within, after_kept, after_view, own_spot}

-- READING
pub read_slot : (slots : List Slot) (k : ℕ) (s : Slot) → k < length slots → s ≡ get_or slots k s → s ≡ slot_at slots k
read_slot slots k s made e = get_or_read slots k s made e no_slot

pub read_block : (parts : List Block) (p : ℕ) (b : Block) → p < length parts → b ≡ get_or parts p b → b ≡ block_at parts p
read_block parts p b inside e = get_or_read parts p b inside e no_block

pub spot_seen : (parts : List Block) (slots : List Slot) (ms : List Marker) (k : ℕ) (h : Home) → map (marker_in parts) slots ≡ ms → (slot_at slots k).home ≡ h → (marker_at ms k).spot ≡ spot_at parts h
spot_seen parts slots ms k h view e = ap (λ xs. (marker_at xs k).spot) (sym view) ∙ ap (λ m. m.spot) (marker_of_slot parts slots k) ∙ ap (spot_at parts) e

pub kind_seen : (parts : List Block) (slots : List Slot) (ms : List Marker) (k : ℕ) (s : Slot) → map (marker_in parts) slots ≡ ms → s ≡ slot_at slots k → s.advances ≡ (marker_at ms k).advances
kind_seen parts slots ms k s view e = ap (λ x. x.advances) e ∙ sym (ap (λ xs. (marker_at xs k).advances) (sym view) ∙ ap (λ m. m.advances) (marker_of_slot parts slots k))

-- a part is put back as it was
pub same_parts : (parts : List Block) (p : ℕ) (old new : Block) → p < length parts → old ≡ get_or parts p old → new ≡ old → slice_set parts p new ≡ parts
same_parts parts p old new inside e same = ap (slice_set parts p) (same ∙ read_block parts p old inside e) ∙ set-get_or parts p no_block

-- the marker of a number set, as the contracts say it
pub as_said : (olds ms : List Marker) (k : ℕ) (spot : Option Spot) (advances : Bool) → olds ≡ ms → advances ≡ (marker_at ms k).advances →
    slice_set olds k (record { spot = spot; advances = advances }) ≡ slice_set ms k (record { spot = spot; advances = (marker_at ms k).advances })
as_said olds ms k spot advances e h = ap (λ xs. slice_set xs k (record { spot = spot; advances = advances })) e ∙ ap (λ a. slice_set ms k (record { spot = spot; advances = a })) h

module _ (parts : List Block) (slots : List Slot) (alone : Bool) (kept : Kept parts slots alone) (k : ℕ) (made : k < length slots) where
  -- A MARKER LEAVES ITS CELL
  module _ (p c : ℕ) (home : (slot_at slots k).home ≡ Packed p c) (b : Block) (b_is : b ≡ with_cells (block_at parts p) (slice_set (block_at parts p).cells c None)) (advances : Bool) where
    its_part : p < length parts
    its_part = part_within parts p c k (kept.there k p c home)

    its_cell : c < length (block_at parts p).cells
    its_cell = cell_within parts p c k (kept.there k p c home)

    abbrev gone : Slot
    gone = record { home = Nowhere; advances = advances }

    its_owner : (j : ℕ) → owner_at parts p c ≡ Some j → j ≡ k
    its_owner j h = same_number j k (sym h ∙ kept.there k p c home)

    its_home : (q i : ℕ) → (slot_at slots k).home ≡ Packed q i → (q ≡ p) × (i ≡ c)
    its_home q i h = let e : Packed p c ≡ Packed q i = sym home ∙ h in (same_part p c q i e, same_cell p c q i e)

    pub left_kept : Kept (slice_set parts p b) (slice_set slots k gone) alone
    left_kept =
        subst (λ x. Kept (slice_set parts p x) (slice_set slots k gone) alone) (sym b_is)
        (after_kept parts slots alone kept p c k (block_at parts p).buffer (block_at parts p).advances None gone its_part its_cell made (λ i x e. (refl, refl)) its_owner its_home (inr (refl, refl)))

    pub left_view : map (marker_in (slice_set parts p b)) (slice_set slots k gone) ≡ slice_set (map (marker_in parts) slots) k (record { spot = None; advances = advances })
    left_view =
        ap (λ x. map (marker_in (slice_set parts p x)) (slice_set slots k gone)) b_is
        ∙ after_view parts slots alone kept p c k (block_at parts p).buffer (block_at parts p).advances None gone its_part its_cell made (λ i x e. (refl, refl)) its_owner its_home

  -- A MARKER GOES INTO A CELL
  module _ (free : (q i : ℕ) → (slot_at slots k).home ≡ Packed q i → ⊥) (p c : ℕ) (inside : p < length parts) (advances : Bool) (spot : ℕ × ℕ) (b : Block) (taken : Taken k advances spot (block_at parts p) b c) (same : Bool) (same_is : advances ≡ same) where
    abbrev put : Slot
    put = record { home = Packed p c; advances = same }

    abbrev here : Option Cell
    here = Some (record { number = k; place = spot.1 })

    no_other : (j : ℕ) → owner_at parts p c ≡ Some j → j ≡ k
    no_other j h = absurd (no_owner j (cell_at (block_at parts p) c) taken.free h)

    no_home : (q i : ℕ) → (slot_at slots k).home ≡ Packed q i → (q ≡ p) × (i ≡ c)
    no_home q i h = absurd (free q i h)

    pub entered_kept : Kept (slice_set parts p b) (slice_set slots k put) alone
    entered_kept =
        subst (λ x. Kept (slice_set parts p x) (slice_set slots k put) alone) (sym taken.is)
        (after_kept parts slots alone kept p c k spot.0 advances here put inside taken.within made taken.alike no_other no_home (inl (refl, refl, same_is)))

    pub entered_view : map (marker_in (slice_set parts p b)) (slice_set slots k put) ≡ slice_set (map (marker_in parts) slots) k (record { spot = Some (record { buffer = spot.0; place = spot.1 }); advances = same })
    entered_view =
        ap (λ x. map (marker_in (slice_set parts p x)) (slice_set slots k put)) taken.is
        ∙ after_view parts slots alone kept p c k spot.0 advances here put inside taken.within made taken.alike no_other no_home
        ∙ ap (λ s. slice_set (map (marker_in parts) slots) k (record { spot = s; advances = same })) (own_spot parts slots alone kept p c k spot.0 advances here put inside taken.within made taken.alike no_other no_home)
