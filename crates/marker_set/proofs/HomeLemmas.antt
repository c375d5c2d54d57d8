-- Slots and cells that point to each other.
use Rattle.std.proofs.Common.{◌≡◌, ℕ, ◌<◌, ◌≢◌, inl, inr, ◌⊎◌, Bool, List, [], length, map, get_or, slice_set, Option, Some, None, refl, ap, subst, sym, ◌∙◌, arith}
use Rattle.std.proofs.lemmas.Bool.{cases_eq, cases_lt}
use Rattle.std.proofs.lemmas.List.{ext_get_or, get_or-set_same, get_or-set_other, get_or_past, length-map, length-set}
use Rattle.std.proofs.lemmas.List.Elements.{All-set}
use Rattle.std.proofs.lemmas.Option.{unwrap_or-slice_get}
use Rattle.text_model.specs.Marks.{Marker}
use Rattle.marker_set.specs.Numbered.{nowhere, marker_at}
use Rattle.marker_set.specs.Blocks.{Block, cell_at, owner_of, spot_in}
use Rattle.marker_set.specs.Homes.{no_block, no_slot, block_at, slot_at, owner_at, spot_at, marker_in, IsNotAlone, Kept}
use Rattle.marker_set.specs.declared.cell.Cell.{Cell}
use Rattle.marker_set.specs.declared.slot.Home.{Home}
use Rattle.marker_set.specs.declared.slot.Home.TheVariants.{Nowhere, Alone, Packed}
use Rattle.marker_set.specs.declared.slot.Slot.{Slot}
use Rattle.marker_set.proofs.Lists.{seen_at}

-- READING
pub marker_at-get_or : (ms : List Marker) (k : ℕ) → marker_at ms k ≡ get_or ms k nowhere
marker_at-get_or ms k = unwrap_or-slice_get ms k nowhere

-- the marker of a slot
pub marker_of_slot : (parts : List Block) (slots : List Slot) (k : ℕ) → marker_at (map (marker_in parts) slots) k ≡ marker_in parts (slot_at slots k)
marker_of_slot parts slots k = marker_at-get_or (map (marker_in parts) slots) k ∙ seen_at (marker_in parts) slots k no_slot nowhere refl

pub no_owner : (k : ℕ) (o : Option Cell) → o ≡ None → owner_of o ≡ Some k → ⊥
no_owner k o none h = let e : None ≡ Some k = sym (ap owner_of none) ∙ h in cc

pub owned : (k : ℕ) (o : Option Cell) → owner_of o ≡ Some k → (c : Cell) × (o ≡ Some c)
owned k None h = absurd (no_owner k None refl h)
owned k (Some c) h = (c, refl)

pub part_within : (parts : List Block) (p c k : ℕ) → owner_at parts p c ≡ Some k → p < length parts
part_within parts p c k h = elim (cases_lt p (length parts)) [
  | inl inside ↦ inside
  | inr past ↦ absurd (no_owner k (cell_at no_block c) (get_or_past {X = Option Cell} [] c None (omega arith)) (sym (ap (λ b. owner_of (cell_at b c)) (get_or_past parts p no_block past)) ∙ h))
]

pub cell_within : (parts : List Block) (p c k : ℕ) → owner_at parts p c ≡ Some k → c < length (block_at parts p).cells
cell_within parts p c k h = elim (cases_lt c (length (block_at parts p).cells)) [
  | inl inside ↦ inside
  | inr past ↦ absurd (no_owner k (cell_at (block_at parts p) c) (get_or_past (block_at parts p).cells c None past) h)
]

nowhere_packed : (p c : ℕ) (h : Home) → h ≡ Nowhere → h ≡ Packed p c → ⊥
nowhere_packed p c h a b = let e : Nowhere ≡ Packed p c = sym a ∙ b in cc

pub slot_within : (slots : List Slot) (k p c : ℕ) → (slot_at slots k).home ≡ Packed p c → k < length slots
slot_within slots k p c h = elim (cases_lt k (length slots)) [
  | inl inside ↦ inside
  | inr past ↦ absurd (nowhere_packed p c (slot_at slots k).home (ap (λ s. s.home) (get_or_past slots k no_slot past)) h)
]

pub same_part : (p c q i : ℕ) → Packed p c ≡ Packed q i → q ≡ p
same_part p c q i h = cc

pub same_cell : (p c q i : ℕ) → Packed p c ≡ Packed q i → i ≡ c
same_cell p c q i h = cc

pub same_number : (j k : ℕ) → Some j ≡ Some k → j ≡ k
same_number j k h = cc

-- a marker that points nowhere is in no cell
spot_of_cell : (b : Block) (o : Option Cell) (k : ℕ) → owner_of o ≡ Some k → spot_in b o ≡ None → ⊥
spot_of_cell b None k h e = no_owner k None refl h
spot_of_cell b (Some c) k h e = cc

pub free_not_packed : (parts : List Block) (slots : List Slot) (alone : Bool) (k : ℕ) → Kept parts slots alone → (marker_at (map (marker_in parts) slots) k).spot ≡ None → (p c : ℕ) → (slot_at slots k).home ≡ Packed p c → ⊥
free_not_packed parts slots alone k kept free p c h =
    let spot : spot_at parts (slot_at slots k).home ≡ None = sym (ap (λ m. m.spot) (marker_of_slot parts slots k)) ∙ free in
    spot_of_cell (block_at parts p) (cell_at (block_at parts p) c) k (kept.there k p c h) (sym (ap (spot_at parts) h) ∙ spot)

-- A SLOT IS SET
pub slot_same : (slots : List Slot) (k : ℕ) (s : Slot) → k < length slots → slot_at (slice_set slots k s) k ≡ s
slot_same slots k s h = get_or-set_same slots k s no_slot h

pub slot_other : (slots : List Slot) (k j : ℕ) (s : Slot) → j ≢ k → slot_at (slice_set slots k s) j ≡ slot_at slots j
slot_other slots k j s h = get_or-set_other slots k j s no_slot h

-- the markers after a slot was set and parts changed, where the others point where they did
pub view_set : (parts news : List Block) (slots : List Slot) (k : ℕ) (s : Slot) → k < length slots → ((j : ℕ) → j ≢ k → spot_at news (slot_at slots j).home ≡ spot_at parts (slot_at slots j).home) →
    map (marker_in news) (slice_set slots k s) ≡ slice_set (map (marker_in parts) slots) k (marker_in news s)
view_set parts news slots k s made others =
    ext_get_or nowhere (map (marker_in news) (slice_set slots k s)) (slice_set (map (marker_in parts) slots) k (marker_in news s))
    (length-map (slice_set slots k s) (marker_in news) ∙ length-set slots k s ∙ sym (length-set (map (marker_in parts) slots) k (marker_in news s) ∙ length-map slots (marker_in parts)))
    (λ j inside. seen_at (marker_in news) (slice_set slots k s) j no_slot nowhere refl ∙ elim (cases_eq j k) [
      | inl e ↦
          let made_too : k < length (map (marker_in parts) slots) = omega (arith, length-map slots (marker_in parts)) in
          ap (λ i. marker_in news (slot_at (slice_set slots k s) i)) e ∙ ap (marker_in news) (slot_same slots k s made)
          ∙ sym (ap (λ i. get_or (slice_set (map (marker_in parts) slots) k (marker_in news s)) i nowhere) e ∙ get_or-set_same (map (marker_in parts) slots) k (marker_in news s) nowhere made_too)
      | inr n ↦
          ap (marker_in news) (slot_other slots k j s n)
          ∙ ap (λ spot. record { spot = spot; advances = (slot_at slots j).advances }) (others j n)
          ∙ sym (get_or-set_other (map (marker_in parts) slots) k j (marker_in news s) nowhere n ∙ seen_at (marker_in parts) slots j no_slot nowhere refl)
    ])

-- A CELL AND A SLOT ARE SET
module _ (parts : List Block) (slots : List Slot) (alone : Bool) (kept : Kept parts slots alone) (p c k buffer : ℕ) (advances : Bool) (o : Option Cell) (s : Slot)
    (p_in : p < length parts) (c_in : c < length (block_at parts p).cells) (made : k < length slots)
    (alike : (i : ℕ) (x : Cell) → cell_at (block_at parts p) i ≡ Some x → ((block_at parts p).buffer ≡ buffer) × ((block_at parts p).advances ≡ advances))
    (owner : (j : ℕ) → owner_at parts p c ≡ Some j → j ≡ k)
    (home : (q i : ℕ) → (slot_at slots k).home ≡ Packed q i → (q ≡ p) × (i ≡ c)) where
  abbrev block : Block
  block = record { buffer = buffer; advances = advances; cells = slice_set (block_at parts p).cells c o }

  abbrev after : List Block
  after = slice_set parts p block

  block_same : block_at after p ≡ block
  block_same = get_or-set_same parts p block no_block p_in

  block_other : (q : ℕ) → q ≢ p → block_at after q ≡ block_at parts q
  block_other q n = get_or-set_other parts p q block no_block n

  pub cell_same : cell_at (block_at after p) c ≡ o
  cell_same = ap (λ b. cell_at b c) block_same ∙ get_or-set_same (block_at parts p).cells c o None c_in

  pub own_spot : spot_at after (Packed p c) ≡ spot_in block o
  own_spot = ap (λ b. spot_in b (cell_at b c)) block_same ∙ ap (spot_in block) (get_or-set_same (block_at parts p).cells c o None c_in)

  cell_other : (q i : ℕ) → (q ≡ p → i ≡ c → ⊥) → cell_at (block_at after q) i ≡ cell_at (block_at parts q) i
  cell_other q i n = elim (cases_eq q p) [
    | inl e ↦
        let other : i ≢ c = n e in
        ap (λ r. cell_at (block_at after r) i) e ∙ ap (λ b. cell_at b i) block_same ∙ get_or-set_other (block_at parts p).cells c i o None other ∙ sym (ap (λ r. cell_at (block_at parts r) i) e)
    | inr m ↦ ap (λ b. cell_at b i) (block_other q m)
  ]

  -- the cells of others, and where these point
  module _ (j q i : ℕ) (n : j ≢ k) (h : (slot_at slots j).home ≡ Packed q i) where
    elsewhere : q ≡ p → i ≡ c → ⊥
    elsewhere a b = n (owner j (subst (λ r. owner_at parts r c ≡ Some j) a (subst (λ m. owner_at parts q m ≡ Some j) b (kept.there j q i h))))

    owner_stays : owner_at after q i ≡ Some j
    owner_stays = ap owner_of (cell_other q i elsewhere) ∙ kept.there j q i h

    there_is : (x : Cell) × (cell_at (block_at parts q) i ≡ Some x)
    there_is = owned j (cell_at (block_at parts q) i) (kept.there j q i h)

    kind_of_part : q ≡ p → ((block_at parts p).buffer ≡ buffer) × ((block_at parts p).advances ≡ advances)
    kind_of_part e = alike i there_is.0 (subst (λ r. cell_at (block_at parts r) i ≡ Some there_is.0) e there_is.1)

    buffer_stays : (block_at after q).buffer ≡ (block_at parts q).buffer
    buffer_stays = elim (cases_eq q p) [
      | inl e ↦ ap (λ r. (block_at after r).buffer) e ∙ ap (λ b. b.buffer) block_same ∙ sym ((kind_of_part e).0) ∙ sym (ap (λ r. (block_at parts r).buffer) e)
      | inr m ↦ ap (λ b. b.buffer) (block_other q m)
    ]

    kind_stays : (block_at after q).advances ≡ (block_at parts q).advances
    kind_stays = elim (cases_eq q p) [
      | inl e ↦ ap (λ r. (block_at after r).advances) e ∙ ap (λ b. b.advances) block_same ∙ sym ((kind_of_part e).1) ∙ sym (ap (λ r. (block_at parts r).advances) e)
      | inr m ↦ ap (λ b. b.advances) (block_other q m)
    ]

    packed_spot_stays : spot_at after (Packed q i) ≡ spot_at parts (Packed q i)
    packed_spot_stays =
        ap (spot_in (block_at after q)) (cell_other q i elsewhere)
        ∙ ap (λ x. spot_in (block_at after q) x) there_is.1
        ∙ ap (λ b. Some (record { buffer = b; place = there_is.0.place })) buffer_stays
        ∙ sym (ap (λ x. spot_in (block_at parts q) x) there_is.1)

  spot_stays_at : (j : ℕ) → j ≢ k → (h : Home) → (slot_at slots j).home ≡ h → spot_at after h ≡ spot_at parts h
  spot_stays_at j n Nowhere e = refl
  spot_stays_at j n (Alone buffer place) e = refl
  spot_stays_at j n (Packed q i) e = packed_spot_stays j q i n e

  spot_stays : (j : ℕ) → j ≢ k → spot_at after (slot_at slots j).home ≡ spot_at parts (slot_at slots j).home
  spot_stays j n = spot_stays_at j n (slot_at slots j).home refl

  pub after_view : map (marker_in after) (slice_set slots k s) ≡ slice_set (map (marker_in parts) slots) k (marker_in after s)
  after_view = view_set parts after slots k s made spot_stays

  module _ (mine : ((s.home ≡ Packed p c) × (owner_of o ≡ Some k) × (advances ≡ s.advances)) ⊎ ((s.home ≡ Nowhere) × (o ≡ None))) where
    abbrev slots_after : List Slot
    slots_after = slice_set slots k s

    own : slot_at slots_after k ≡ s
    own = slot_same slots k s made

    home_other : (j : ℕ) → j ≢ k → (slot_at slots_after j).home ≡ (slot_at slots j).home
    home_other j n = ap (λ x. x.home) (slot_other slots k j s n)

    there_own : (q i : ℕ) → s.home ≡ Packed q i → owner_at after q i ≡ Some k
    there_own q i h = elim mine [
      | inl m ↦
          let same : Packed p c ≡ Packed q i = sym m.0 ∙ h in
          ap (λ r. owner_at after r i) (same_part p c q i same) ∙ ap (λ x. owner_at after p x) (same_cell p c q i same) ∙ ap owner_of cell_same ∙ m.1
      | inr m ↦ absurd (nowhere_packed q i s.home m.0 h)
    ]

    there : (j q i : ℕ) → (slot_at slots_after j).home ≡ Packed q i → owner_at after q i ≡ Some j
    there j q i h = elim (cases_eq j k) [
      | inl e ↦ there_own q i (ap (λ x. x.home) (sym own) ∙ ap (λ x. (slot_at slots_after x).home) (sym e) ∙ h) ∙ ap Some (sym e)
      | inr n ↦ owner_stays j q i n (sym (home_other j n) ∙ h)
    ]

    back_here : (j : ℕ) → owner_of o ≡ Some j → (slot_at slots_after j).home ≡ Packed p c
    back_here j h = elim mine [
      | inl m ↦ let e : j ≡ k = same_number j k (sym h ∙ m.1) in ap (λ x. (slot_at slots_after x).home) e ∙ ap (λ x. x.home) own ∙ m.0
      | inr m ↦ absurd (no_owner j o m.1 h)
    ]

    back_there : (j q i : ℕ) → (q ≡ p → i ≡ c → ⊥) → owner_at after q i ≡ Some j → (slot_at slots_after j).home ≡ Packed q i
    back_there j q i n h =
        let was : (slot_at slots j).home ≡ Packed q i = kept.back j q i (sym (ap owner_of (cell_other q i n)) ∙ h) in
        let other : j ≢ k = λ e. let at : (q ≡ p) × (i ≡ c) = home q i (subst (λ x. (slot_at slots x).home ≡ Packed q i) e was) in n at.0 at.1 in
        home_other j other ∙ was

    back : (j q i : ℕ) → owner_at after q i ≡ Some j → (slot_at slots_after j).home ≡ Packed q i
    back j q i h = elim (cases_eq q p) [
      | inl e ↦ elim (cases_eq i c) [
        | inl f ↦
            let here : owner_at after p c ≡ Some j = subst (λ x. owner_at after p x ≡ Some j) f (subst (λ r. owner_at after r i ≡ Some j) e h) in
            back_here j (sym (ap owner_of cell_same) ∙ here) ∙ ap (λ r. Packed r c) (sym e) ∙ ap (Packed q) (sym f)
        | inr m ↦ back_there j q i (λ a. m) h
      ]
      | inr m ↦ back_there j q i (λ a b. m a) h
    ]

    kind_own : (q i : ℕ) → s.home ≡ Packed q i → (block_at after q).advances ≡ s.advances
    kind_own q i h = elim mine [
      | inl m ↦ ap (λ r. (block_at after r).advances) (same_part p c q i (sym m.0 ∙ h)) ∙ ap (λ b. b.advances) block_same ∙ m.2
      | inr m ↦ absurd (nowhere_packed q i s.home m.0 h)
    ]

    kind : (j q i : ℕ) → (slot_at slots_after j).home ≡ Packed q i → (block_at after q).advances ≡ (slot_at slots_after j).advances
    kind j q i h = elim (cases_eq j k) [
      | inl e ↦
          kind_own q i (ap (λ x. x.home) (sym own) ∙ ap (λ x. (slot_at slots_after x).home) (sym e) ∙ h)
          ∙ ap (λ x. x.advances) (sym own) ∙ ap (λ x. (slot_at slots_after x).advances) (sym e)
      | inr n ↦
          let was : (slot_at slots j).home ≡ Packed q i = sym (home_other j n) ∙ h in
          kind_stays j q i n was ∙ kept.alike j q i was ∙ sym (ap (λ x. x.advances) (slot_other slots k j s n))
    ]

    mine_not_alone_at : (h : Home) → s.home ≡ h → ((h ≡ Packed p c) ⊎ (h ≡ Nowhere)) → IsNotAlone (record { home = h; advances = s.advances })
    mine_not_alone_at Nowhere e m = tt
    mine_not_alone_at (Alone b x) e m = elim m [ inl f ↦ cc | inr f ↦ cc ]
    mine_not_alone_at (Packed q i) e m = tt

    mine_not_alone : IsNotAlone s
    mine_not_alone = mine_not_alone_at s.home refl (elim mine [ inl m ↦ inl m.0 | inr m ↦ inr m.0 ])

    pub after_kept : Kept after slots_after alone
    after_kept = record {
      count = omega (arith, length-set slots k s, kept.count);
      there = there;
      back = back;
      alike = kind;
      packed = λ none. All-set IsNotAlone slots k s mine_not_alone (kept.packed none);
    }
