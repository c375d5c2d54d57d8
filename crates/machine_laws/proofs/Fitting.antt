-- Places go on lying in their text, and point between the bounds.
use Rattle.std.proofs.Common.{◌≡◌, ℕ, zero, suc, ◌+◌, ◌-◌, ◌≤◌, ◌<◌, ℤ, Bool, true, false, List, [], ◌∷◌, length, map, refl, ap, sym, subst, ◌∙◌, arith, ◌⊎◌, inl, inr}
use Rattle.std.specs.Prelude.{if◌then◌else◌, ◌==◌, ◌||◌, ◌&&◌, not, is_some, nat_lt, nat_le, slice_get, slice_set, Option, Some, None, option_map, min, max, pos, ◌-ℤ◌}
use Rattle.std.proofs.lemmas.Bool.{eqb-true, cases_eq, ltb-true, ltb-false, leb-true, leb-false, false≢true}
use Rattle.text_model.specs.Places.{after_insert, after_delete, clip}
use Rattle.text_model.specs.Properties.{Cell, get, splice}
use Rattle.text_model.specs.Marks.{Spot, Marker, Span, Overlay, Saved, Excursion, Restriction, Pending, Marks, Move, insertion, deletion, move_marker, move_overlay, start_advances, move_saved, move_marks, evaporate, evaporated}
use Rattle.text_model.specs.Commit.{Buffer, Site, inserted, deleted, with_properties, set_point, undo_one, undo_each, moved_back, less, spot_less, marker_less, place_of, stands_at, moves_behind}
use Rattle.machine_laws.specs.Fits.{SpotFits, MarkersFit, SpanFits, OverlaysFit, KeptFits, SavedFits, MarksFit, SiteFits}
use Rattle.machine_laws.specs.Brackets.{shape, shapes}
use Rattle.text_model.specs.Undo.{Rec, Boundary, Point, Inserted, Deleted, Prop, First, Moved, Entry, undo_in_text, trial, max_after}
use Rattle.text_model.specs.Properties.{PropEdit, Add, Remove, with_sets, edited}
use Rattle.text_model.specs.Commit.{property_records}
use Rattle.text_model.specs.Ordered.{AreOrdered}
use Rattle.text_model.proofs.Cases.{by_test}
use Rattle.text_model.proofs.Forward.{forward_insert, forward_delete}
use Rattle.machine_laws.specs.Good.{Falling, OffIsEmpty}
use Rattle.machine_laws.proofs.Changes.{length-splice, length-with_sets, Outcome}
use Rattle.machine_laws.proofs.Groups.{Within, trial_more, one_record}

-- PLACES
pub after_insert_fits : (q n : ℕ) (advances : Bool) (p size : ℕ) → q ≤ size → p ≤ size → after_insert q n advances p ≤ size + n
after_insert_fits q n advances p size h k = by_test (λ x. x ≤ size + n) (nat_lt p q) p (if nat_lt q p then p + n else (if advances then q + n else p)) (λ a. omega arith)
    (λ a. by_test (λ x. x ≤ size + n) (nat_lt q p) (p + n) (if advances then q + n else p) (λ b. omega arith) (λ b. by_test (λ x. x ≤ size + n) advances (q + n) p (λ c. omega arith) (λ c. omega arith)))

insert_cases : (q n p : ℕ) → ((p ≤ q) × (after_insert q n false p ≡ p)) ⊎ ((q < p) × (after_insert q n false p ≡ p + n))
insert_cases q n p = go (nat_lt p q) refl (nat_lt q p) refl
  where
    go : (a : Bool) → nat_lt p q ≡ a → (b : Bool) → nat_lt q p ≡ b → ((p ≤ q) × ((if a then p else (if b then p + n else p)) ≡ p)) ⊎ ((q < p) × ((if a then p else (if b then p + n else p)) ≡ p + n))
    go true w b x = let l : p < q = ltb-true p q w in inl (omega arith, refl)
    go false w true x = inr (ltb-true q p x, refl)
    go false w false x = inl (ltb-false q p x, refl)

delete_cases : (q r p : ℕ) → ((p ≤ q) × (after_delete q r p ≡ p)) ⊎ (((q < p) × ((p < r) × (after_delete q r p ≡ q))) ⊎ ((q < p) × ((r ≤ p) × (after_delete q r p ≡ p - (r - q)))))
delete_cases q r p = go (nat_le p q) refl (nat_lt p r) refl
  where
    go : (a : Bool) → nat_le p q ≡ a → (b : Bool) → nat_lt p r ≡ b →
        ((p ≤ q) × ((if a then p else (if b then q else p - (r - q))) ≡ p)) ⊎ (((q < p) × ((p < r) × ((if a then p else (if b then q else p - (r - q))) ≡ q))) ⊎ ((q < p) × ((r ≤ p) × ((if a then p else (if b then q else p - (r - q))) ≡ p - (r - q)))))
    go true w b x = inl (leb-true p q w, refl)
    go false w true x = inr (inl (leb-false p q w, (ltb-true p r x, refl)))
    go false w false x = inr (inr (leb-false p q w, (ltb-false p r x, refl)))

insert_stays : (q n p : ℕ) → p ≤ q → after_insert q n false p ≡ p
insert_stays q n p h = go (insert_cases q n p)
  where
    go : ((p ≤ q) × (after_insert q n false p ≡ p)) ⊎ ((q < p) × (after_insert q n false p ≡ p + n)) → after_insert q n false p ≡ p
    go (inl x) = x.1
    go (inr x) = absurd (omega (arith, x.0, h))

insert_moves : (q n p : ℕ) → q ≤ p → after_insert q n true p ≡ p + n
insert_moves q n p h = by_test (λ x. x ≡ p + n) (nat_lt p q) p (if nat_lt q p then p + n else q + n) (λ a. let l : p < q = ltb-true p q a in absurd (omega arith))
    (λ a. by_test (λ x. x ≡ p + n) (nat_lt q p) (p + n) (q + n) (λ b. refl) (λ b. let l : p ≤ q = ltb-false q p b in omega arith))

after_insert_orders : (q n : ℕ) (advances : Bool) (p r : ℕ) → p ≤ r → after_insert q n false p ≤ after_insert q n advances r
after_insert_orders q n advances p r h = forward_insert q n p r false advances h (λ same moves. absurd (false≢true moves))

-- a place in front of another stays so, whether these advance or not
after_insert_strict : (q n : ℕ) (v w : Bool) (p r : ℕ) → p < r → after_insert q n v p ≤ after_insert q n w r
after_insert_strict q n v w p r h = forward_insert q n p r v w (omega arith) (λ same moves. absurd (omega arith))

-- a place in front of one that advances stays so, whether it advances or not
after_insert_below : (q n : ℕ) (advances : Bool) (p r : ℕ) → p ≤ r → after_insert q n advances p ≤ after_insert q n true r
after_insert_below q n advances p r h = forward_insert q n p r advances true h (λ same moves. refl)

-- a deletion takes a place back, at most as far as it is long
delete_between : (q r p : ℕ) → (after_delete q r p ≤ p) × (p - (r - q) ≤ after_delete q r p)
delete_between q r p = go (delete_cases q r p)
  where
    go : ((p ≤ q) × (after_delete q r p ≡ p)) ⊎ (((q < p) × ((p < r) × (after_delete q r p ≡ q))) ⊎ ((q < p) × ((r ≤ p) × (after_delete q r p ≡ p - (r - q))))) → (after_delete q r p ≤ p) × (p - (r - q) ≤ after_delete q r p)
    go (inl x) = (omega (arith, x.1), omega (arith, x.1))
    go (inr (inl x)) = (omega (arith, x.0, x.1.1), omega (arith, x.1.0, x.1.1))
    go (inr (inr x)) = (omega (arith, x.1.1), omega (arith, x.1.1))

pub after_delete_fits : (q r p size : ℕ) → q ≤ r → r ≤ size → p ≤ size → after_delete q r p ≤ size - (r - q)
after_delete_fits q r p size h k l = go (delete_cases q r p)
  where
    go : ((p ≤ q) × (after_delete q r p ≡ p)) ⊎ (((q < p) × ((p < r) × (after_delete q r p ≡ q))) ⊎ ((q < p) × ((r ≤ p) × (after_delete q r p ≡ p - (r - q))))) → after_delete q r p ≤ size - (r - q)
    go (inl x) = rw x.1 (omega arith)
    go (inr (inl x)) = rw x.1.1 (omega arith)
    go (inr (inr x)) = rw x.1.1 (omega arith)

-- MARKS THAT MOVE
-- a move of places up to one size to places up to another, which keeps their order
pub record Moving (move : Move) (size new : ℕ) : Type 0 where
  pub fits : (advances : Bool) (p : ℕ) → p ≤ size → move advances p ≤ new
  pub in_order : (advances : Bool) (p r : ℕ) → p ≤ r → move false p ≤ move advances r
  pub apart : (v w : Bool) (p r : ℕ) → p < r → move v p ≤ move w r

pub moving_insertion : (q n size : ℕ) → q ≤ size → Moving (insertion q n) size (size + n)
moving_insertion q n size h = record { fits = λ advances p k. after_insert_fits q n advances p size h k; in_order = λ a p r k. after_insert_orders q n a p r k; apart = λ v w p r k. after_insert_strict q n v w p r k }

pub moving_deletion : (q r size : ℕ) → q ≤ r → r ≤ size → Moving (deletion q r) size (size - (r - q))
moving_deletion q r size h k = record { fits = λ advances p l. after_delete_fits q r p size h k l; in_order = λ v a b l. forward_delete q r a b h l; apart = λ v w a b l. forward_delete q r a b h (omega arith) }

-- where the start of an empty overlay advances, its end does
end_advances : (all front rear : Bool) → (all || (front && (rear || not true))) ≡ true → (rear || all) ≡ true
end_advances true front true h = refl
end_advances true front false h = refl
end_advances false true true h = refl
end_advances false true false h = absurd (false≢true h)
end_advances false false rear h = absurd (false≢true h)

module _ (id : ℕ) (all : Bool) (move : Move) where
  ends_moved : (size new : ℕ) (o : Overlay) (s : Span) → Moving move size new → s.start ≤ s.end → move (start_advances all o s) s.start ≤ move (o.rear_advance || all) s.end
  ends_moved size new o s m h = go (start_advances all o s) refl
    where
      tied : s.start ≡ s.end → start_advances all o s ≡ true → move true s.start ≤ move (o.rear_advance || all) s.end
      tied q e =
          let t : (s.start == s.end) ≡ true = grind arith in
          let r : (o.rear_advance || all) ≡ true = end_advances all o.front_advance o.rear_advance (subst (λ (v : Bool). (all || (o.front_advance && (o.rear_advance || not v))) ≡ true) t e) in
          let x : move (o.rear_advance || all) s.end ≡ move true s.start = ap (λ (v : Bool). move v s.end) r ∙ ap (move true) (sym q) in
          omega arith

      go : (v : Bool) → start_advances all o s ≡ v → move v s.start ≤ move (o.rear_advance || all) s.end
      go false e = m.in_order (o.rear_advance || all) s.start s.end h
      go true e = by_case (cases_eq s.start s.end)
        where
          by_case : (s.start ≡ s.end) ⊎ (s.start ≡ s.end → ⊥) → move true s.start ≤ move (o.rear_advance || all) s.end
          by_case (inl q) = tied q e
          by_case (inr d) = m.apart true (o.rear_advance || all) s.start s.end (less_of s.start s.end h d)
            where
              less_of : (a b : ℕ) → a ≤ b → (a ≡ b → ⊥) → a < b
              less_of a b h d = by_order (nat_lt a b) refl
                where
                  by_order : (v : Bool) → nat_lt a b ≡ v → a < b
                  by_order true e = ltb-true a b e
                  by_order false e = let l : b ≤ a = ltb-false a b e in absurd (d (omega arith))

  span_moved : (size new : ℕ) (o : Overlay) (x : Option Span) → Moving move size new → SpanFits id size x → SpanFits id new (option_map (λ s. if s.buffer == id then record s { start = move (start_advances all o s) s.start; end = move (o.rear_advance || all) s.end } else s) x)
  span_moved size new o None m h = tt
  span_moved size new o (Some s) m h = go (s.buffer == id) refl
    where
      go : (v : Bool) → (s.buffer == id) ≡ v → SpanFits id new (Some (if v then record s { start = move (start_advances all o s) s.start; end = move (o.rear_advance || all) s.end } else s))
      go true e = λ k. let y : (s.start ≤ s.end) × (s.end ≤ size) = h e in (ends_moved size new o s m y.0, m.fits (o.rear_advance || all) s.end y.1)
      go false e = λ k. absurd (false≢true (sym e ∙ k))

  overlays_moved : (size new : ℕ) (os : List Overlay) → Moving move size new → OverlaysFit id size os → OverlaysFit id new (map (move_overlay id all move) os)
  overlays_moved size new [] m h = tt
  overlays_moved size new (o ∷ os) m h = (span_moved size new o o.span m h.0, overlays_moved size new os m h.1)

  span_other : (j size : ℕ) (o : Overlay) (x : Option Span) → (j ≡ id → ⊥) → SpanFits j size x → SpanFits j size (option_map (λ s. if s.buffer == id then record s { start = move (start_advances all o s) s.start; end = move (o.rear_advance || all) s.end } else s) x)
  span_other j size o None d h = tt
  span_other j size o (Some s) d h = go (s.buffer == id) refl
    where
      go : (v : Bool) → (s.buffer == id) ≡ v → SpanFits j size (Some (if v then record s { start = move (start_advances all o s) s.start; end = move (o.rear_advance || all) s.end } else s))
      go true e = λ k. absurd (d (sym (eqb-true s.buffer j k) ∙ eqb-true s.buffer id e))
      go false e = h

  overlays_other : (j size : ℕ) (os : List Overlay) → (j ≡ id → ⊥) → OverlaysFit j size os → OverlaysFit j size (map (move_overlay id all move) os)
  overlays_other j size [] d h = tt
  overlays_other j size (o ∷ os) d h = (span_other j size o o.span d h.0, overlays_other j size os d h.1)

  spot_moved : (size new : ℕ) (advances : Bool) (o : Option Spot) → Moving move size new → SpotFits id size o → SpotFits id new (option_map (λ s. if s.buffer == id then record s { place = move advances s.place } else s) o)
  spot_moved size new advances None m h = tt
  spot_moved size new advances (Some s) m h = go (s.buffer == id) refl
    where
      go : (v : Bool) → (s.buffer == id) ≡ v → SpotFits id new (Some (if v then record s { place = move advances s.place } else s))
      go true e = λ k. m.fits advances s.place (h e)
      go false e = λ k. absurd (false≢true (sym e ∙ k))

  markers_moved : (size new : ℕ) (ms : List Marker) → Moving move size new → MarkersFit id size ms → MarkersFit id new (map (move_marker id all move) ms)
  markers_moved size new [] m h = tt
  markers_moved size new (x ∷ ms) m h = (spot_moved size new (x.advances || all) x.spot m h.0, markers_moved size new ms m h.1)

  kept_moved : (size new : ℕ) (k : Saved) → Moving move size new → KeptFits id size k → KeptFits id new (move_saved id move k)
  kept_moved size new (Excursion b p) m h = go (b == id) refl
    where
      go : (v : Bool) → (b == id) ≡ v → KeptFits id new (if v then Excursion b (move false p) else Excursion b p)
      go true e = λ k. m.fits false p (h e)
      go false e = λ k. absurd (false≢true (sym e ∙ k))
  kept_moved size new (Restriction b None) m h = tt
  kept_moved size new (Restriction b (Some ends)) m h = go (b == id) refl
    where
      go : (v : Bool) → (b == id) ≡ v → KeptFits id new (if v then Restriction b (Some (move false ends.0, move true ends.1)) else Restriction b (Some ends))
      go true e = λ k. let x : (ends.0 ≤ ends.1) × (ends.1 ≤ size) = h e in (m.in_order true ends.0 ends.1 x.0, m.fits true ends.1 x.1)
      go false e = λ k. absurd (false≢true (sym e ∙ k))
  kept_moved size new (Pending b from to) m h = go (b == id) refl
    where
      go : (v : Bool) → (b == id) ≡ v → KeptFits id new (if v then Pending b (move false from) (move false to) else Pending b from to)
      go true e = λ k. let x : (from ≤ to) × (to ≤ size) = h e in (m.in_order false from to x.0, m.fits false to x.1)
      go false e = λ k. absurd (false≢true (sym e ∙ k))

  saved_moved : (size new : ℕ) (ks : List Saved) → Moving move size new → SavedFits id size ks → SavedFits id new (map (move_saved id move) ks)
  saved_moved size new [] m h = tt
  saved_moved size new (k ∷ ks) m h = (kept_moved size new k m h.0, saved_moved size new ks m h.1)

  pub marks_moved : (size new : ℕ) (marks : Marks) → Moving move size new → MarksFit id size marks → MarksFit id new (move_marks id all move marks)
  marks_moved size new marks m h = record { markers = markers_moved size new marks.markers m h.markers; overlays = overlays_moved size new marks.overlays m h.overlays; saved = saved_moved size new marks.saved m h.saved }

  -- those of other buffers stay
  spot_other : (j size : ℕ) (advances : Bool) (o : Option Spot) → (j ≡ id → ⊥) → SpotFits j size o → SpotFits j size (option_map (λ s. if s.buffer == id then record s { place = move advances s.place } else s) o)
  spot_other j size advances None d h = tt
  spot_other j size advances (Some s) d h = go (s.buffer == id) refl
    where
      go : (v : Bool) → (s.buffer == id) ≡ v → SpotFits j size (Some (if v then record s { place = move advances s.place } else s))
      go true e = λ k. absurd (d (sym (eqb-true s.buffer j k) ∙ eqb-true s.buffer id e))
      go false e = h

  markers_other : (j size : ℕ) (ms : List Marker) → (j ≡ id → ⊥) → MarkersFit j size ms → MarkersFit j size (map (move_marker id all move) ms)
  markers_other j size [] d h = tt
  markers_other j size (x ∷ ms) d h = (spot_other j size (x.advances || all) x.spot d h.0, markers_other j size ms d h.1)

  kept_other : (j size : ℕ) (k : Saved) → (j ≡ id → ⊥) → KeptFits j size k → KeptFits j size (move_saved id move k)
  kept_other j size (Excursion b p) d h = go (b == id) refl
    where
      go : (v : Bool) → (b == id) ≡ v → KeptFits j size (if v then Excursion b (move false p) else Excursion b p)
      go true e = λ k. absurd (d (sym (eqb-true b j k) ∙ eqb-true b id e))
      go false e = h
  kept_other j size (Restriction b None) d h = tt
  kept_other j size (Restriction b (Some ends)) d h = go (b == id) refl
    where
      go : (v : Bool) → (b == id) ≡ v → KeptFits j size (if v then Restriction b (Some (move false ends.0, move true ends.1)) else Restriction b (Some ends))
      go true e = λ k. absurd (d (sym (eqb-true b j k) ∙ eqb-true b id e))
      go false e = h
  kept_other j size (Pending b from to) d h = go (b == id) refl
    where
      go : (v : Bool) → (b == id) ≡ v → KeptFits j size (if v then Pending b (move false from) (move false to) else Pending b from to)
      go true e = λ k. absurd (d (sym (eqb-true b j k) ∙ eqb-true b id e))
      go false e = h

  saved_other : (j size : ℕ) (ks : List Saved) → (j ≡ id → ⊥) → SavedFits j size ks → SavedFits j size (map (move_saved id move) ks)
  saved_other j size [] d h = tt
  saved_other j size (k ∷ ks) d h = (kept_other j size k d h.0, saved_other j size ks d h.1)

  pub marks_other : (j size : ℕ) (marks : Marks) → (j ≡ id → ⊥) → MarksFit j size marks → MarksFit j size (move_marks id all move marks)
  marks_other j size marks d h = record { markers = markers_other j size marks.markers d h.markers; overlays = overlays_other j size marks.overlays d h.overlays; saved = saved_other j size marks.saved d h.saved }

-- SHAPES
shape_moved : (id : ℕ) (move : Move) (k : Saved) → shape (move_saved id move k) ≡ shape k
shape_moved id move (Excursion b p) = by_test (λ x. shape x ≡ (0, b)) (b == id) (Excursion b (move false p)) (Excursion b p) (λ e. refl) (λ e. refl)
shape_moved id move (Restriction b None) = refl
shape_moved id move (Restriction b (Some ends)) = by_test (λ x. shape x ≡ (1, b)) (b == id) (Restriction b (Some (move false ends.0, move true ends.1))) (Restriction b (Some ends)) (λ e. refl) (λ e. refl)
shape_moved id move (Pending b from to) = by_test (λ x. shape x ≡ (2, b)) (b == id) (Pending b (move false from) (move false to)) (Pending b from to) (λ e. refl) (λ e. refl)

shapes_moved : (id : ℕ) (move : Move) (ks : List Saved) → shapes (map (move_saved id move) ks) ≡ shapes ks
shapes_moved id move [] = refl
shapes_moved id move (k ∷ ks) = rw (shape_moved id move k, shapes_moved id move ks) refl

-- OVERLAYS THAT EVAPORATE
pub evaporated_fits : (b id size : ℕ) (o : Overlay) → SpanFits id size o.span → SpanFits id size (evaporated b o).span
evaporated_fits b id size o h = go o.span h
  where
    go : (x : Option Span) → SpanFits id size x → SpanFits id size (elim x [ None ↦ None | Some s ↦ if (s.buffer == b) && ((s.start == s.end) && is_some (get o.props evaporate)) then None else Some s ])
    go None k = tt
    go (Some s) k = by_test (λ y. SpanFits id size y) ((s.buffer == b) && ((s.start == s.end) && is_some (get o.props evaporate))) None (Some s) (λ q. tt) (λ q. k)

all_evaporated : (b id size : ℕ) (os : List Overlay) → OverlaysFit id size os → OverlaysFit id size (map (evaporated b) os)
all_evaporated b id size [] h = tt
all_evaporated b id size (o ∷ os) h = (evaporated_fits b id size o h.0, all_evaporated b id size os h.1)

-- CHANGES OF A SITE
-- the places of this buffer still fit, those of others are as they were, and so are the kinds of the kept places
pub record Fitting (id : ℕ) (site new : Site) : Type 0 where
  pub fits : SiteFits id new
  pub others : (j size : ℕ) → (j ≡ id → ⊥) → MarksFit j size site.marks → MarksFit j size new.marks
  pub same_shapes : shapes new.marks.saved ≡ shapes site.marks.saved

pub fitting_then : (id : ℕ) (a b c : Site) → Fitting id a b → Fitting id b c → Fitting id a c
fitting_then id a b c x y = record { fits = y.fits; others = λ j size d h. y.others j size d (x.others j size d h); same_shapes = y.same_shapes ∙ x.same_shapes }

pub fitting_self : (id : ℕ) (a : Site) → SiteFits id a → Fitting id a a
fitting_self id a f = record { fits = f; others = λ j size d h. h; same_shapes = refl }

pub inserted_fits : (id at : ℕ) (piece : List Cell) (all advances : Bool) (site : Site) → at ≤ length site.buffer.text → SiteFits id site → Fitting id site (inserted id at piece all advances site)
inserted_fits id at piece all advances site h f = record {
  fits = record {
    begin_fits = after_insert_orders at (length piece) true site.buffer.begin site.buffer.end f.begin_fits;
    end_fits = rw size (after_insert_fits at (length piece) true site.buffer.end (length site.buffer.text) h f.end_fits);
    begin_to_point = after_insert_orders at (length piece) advances site.buffer.begin site.buffer.point f.begin_to_point;
    point_to_end = after_insert_below at (length piece) advances site.buffer.point site.buffer.end f.point_to_end;
    marks_fit = rw size (marks_moved id all (insertion at (length piece)) (length site.buffer.text) (length site.buffer.text + length piece) site.marks (moving_insertion at (length piece) (length site.buffer.text) h) f.marks_fit);
  };
  others = λ j size d k. marks_other id all (insertion at (length piece)) j size site.marks d k;
  same_shapes = shapes_moved id (insertion at (length piece)) site.marks.saved;
}
  where
    size : length (splice at at piece site.buffer.text) ≡ length site.buffer.text + length piece
    size = let e : length (splice at at piece site.buffer.text) + (at - at) ≡ length site.buffer.text + length piece = length-splice at at piece site.buffer.text (omega arith) h in omega arith

pub deleted_fits : (id from to : ℕ) (site : Site) → from ≤ to → to ≤ length site.buffer.text → SiteFits id site → Fitting id site (deleted id from to site)
deleted_fits id from to site h k f = record {
  fits = record {
    begin_fits = forward_delete from to site.buffer.begin site.buffer.end h f.begin_fits;
    end_fits = rw size (after_delete_fits from to site.buffer.end (length site.buffer.text) h k f.end_fits);
    begin_to_point = forward_delete from to site.buffer.begin site.buffer.point h f.begin_to_point;
    point_to_end = forward_delete from to site.buffer.point site.buffer.end h f.point_to_end;
    marks_fit = record { markers = moved.markers; overlays = all_evaporated id id (length (splice from to [] site.buffer.text)) _ moved.overlays; saved = moved.saved };
  };
  others = λ j size d l. let m : MarksFit j size (move_marks id false (deletion from to) site.marks) = marks_other id false (deletion from to) j size site.marks d l in record { markers = m.markers; overlays = all_evaporated id j size _ m.overlays; saved = m.saved };
  same_shapes = shapes_moved id (deletion from to) site.marks.saved;
}
  where
    size : length (splice from to [] site.buffer.text) ≡ length site.buffer.text - (to - from)
    size = let e : length (splice from to [] site.buffer.text) + (to - from) ≡ length site.buffer.text + 0 = length-splice from to [] site.buffer.text h k in omega arith

    moved : MarksFit id (length (splice from to [] site.buffer.text)) (move_marks id false (deletion from to) site.marks)
    moved = rw size (marks_moved id false (deletion from to) (length site.buffer.text) (length site.buffer.text - (to - from)) site.marks (moving_deletion from to (length site.buffer.text) h k) f.marks_fit)

-- a change of properties moves nothing
pub properties_fits : (id : ℕ) (edit : PropEdit) (from to : ℕ) (site : Site) → from ≤ to → to ≤ length site.buffer.text → SiteFits id site → Fitting id site (record site { buffer = with_properties edit from to site.buffer })
properties_fits id edit from to site h k f = go (property_records edit from to site.buffer.text)
  where
    b : Buffer
    b = site.buffer

    size : length (with_sets from to (edited edit) b.text) ≡ length b.text
    size = length-with_sets from to (edited edit) b.text h k

    go : (rs : List Rec) → Fitting id site (record site { buffer = elim rs [ [] ↦ b | r ∷ records ↦ record b { text = with_sets from to (edited edit) b.text; modified = true; undo = Rattle.text_model.specs.Commit.recorded (r ∷ records) b } ] })
    go [] = fitting_self id site f
    go (r ∷ rs) = record { fits = record { begin_fits = f.begin_fits; end_fits = rw size f.end_fits; begin_to_point = f.begin_to_point; point_to_end = f.point_to_end; marks_fit = rw size f.marks_fit }; others = λ j n d x. x; same_shapes = refl }

-- MARKERS MOVED BACK
pub clip_fits : (size p : ℕ) → clip 0 size p ≤ size
clip_fits size p = omega arith

spot_less_fits : (id size : ℕ) (a : ℤ) (o : Option Spot) → SpotFits id size (option_map (spot_less id size a) o)
spot_less_fits id size a None = tt
spot_less_fits id size a (Some s) = go (s.buffer == id) refl
  where
    go : (v : Bool) → (s.buffer == id) ≡ v → SpotFits id size (Some (if v then record s { place = clip 0 size (place_of (pos s.place -ℤ a)) } else s))
    go true e = λ k. clip_fits size (place_of (pos s.place -ℤ a))
    go false e = λ k. absurd (false≢true (sym e ∙ k))

spot_less_other : (id size j n : ℕ) (a : ℤ) (o : Option Spot) → (j ≡ id → ⊥) → SpotFits j n o → SpotFits j n (option_map (spot_less id size a) o)
spot_less_other id size j n a None d h = tt
spot_less_other id size j n a (Some s) d h = go (s.buffer == id) refl
  where
    go : (v : Bool) → (s.buffer == id) ≡ v → SpotFits j n (Some (if v then record s { place = clip 0 size (place_of (pos s.place -ℤ a)) } else s))
    go true e = λ k. absurd (d (sym (eqb-true s.buffer j k) ∙ eqb-true s.buffer id e))
    go false e = h

pub markers_set : (id size k : ℕ) (m : Marker) (ms : List Marker) → SpotFits id size m.spot → MarkersFit id size ms → MarkersFit id size (slice_set ms k m)
markers_set id size k m [] s h = tt
markers_set id size zero m (x ∷ ms) s h = (s, h.1)
markers_set id size (suc k) m (x ∷ ms) s h = (h.0, markers_set id size k m ms s h.1)

pub marker_fits : (id size k : ℕ) (m : Marker) (ms : List Marker) → slice_get ms k ≡ Some m → MarkersFit id size ms → SpotFits id size m.spot
marker_fits id size k m [] e h = cc
marker_fits id size zero m (x ∷ ms) e h = subst (λ y. SpotFits id size y.spot) (same_marker x m e) h.0
  where
    same_marker : (x m : Marker) → Some x ≡ Some m → x ≡ m
    same_marker x m e = cc
marker_fits id size (suc k) m (x ∷ ms) e h = marker_fits id size k m ms e h.1

marker_less_fits : (id size : ℕ) (move : ℕ × ℤ) (ms : List Marker) → MarkersFit id size ms → MarkersFit id size (marker_less id size move ms)
marker_less_fits id size move ms h = go (slice_get ms move.0)
  where
    go : (o : Option Marker) → MarkersFit id size (elim o [ None ↦ ms | Some marker ↦ slice_set ms move.0 (less id size move.1 marker) ])
    go None = h
    go (Some m) = markers_set id size move.0 (less id size move.1 m) ms (spot_less_fits id size move.1 m.spot) h

marker_less_other : (id size j n : ℕ) (move : ℕ × ℤ) (ms : List Marker) → (j ≡ id → ⊥) → MarkersFit j n ms → MarkersFit j n (marker_less id size move ms)
marker_less_other id size j n move ms d h = go (slice_get ms move.0) refl
  where
    go : (o : Option Marker) → slice_get ms move.0 ≡ o → MarkersFit j n (elim o [ None ↦ ms | Some marker ↦ slice_set ms move.0 (less id size move.1 marker) ])
    go None e = h
    go (Some m) e = markers_set j n move.0 (less id size move.1 m) ms (spot_less_other id size j n move.1 m.spot d (marker_fits j n move.0 m ms e h)) h

back_fits : (id place size : ℕ) (before : List Marker) (moves : List (ℕ × ℤ)) (ms : List Marker) → MarkersFit id size ms → MarkersFit id size (moved_back id place size before moves ms)
back_fits id place size before [] ms h = h
back_fits id place size before (m ∷ moves) ms h =
    back_fits id place size before moves _ (by_test (λ x. MarkersFit id size x) (stands_at id place (slice_get before m.0)) (marker_less id size m ms) ms (λ e. marker_less_fits id size m ms h) (λ e. h))

back_other : (id place size j n : ℕ) (before : List Marker) (moves : List (ℕ × ℤ)) (ms : List Marker) → (j ≡ id → ⊥) → MarkersFit j n ms → MarkersFit j n (moved_back id place size before moves ms)
back_other id place size j n before [] ms d h = h
back_other id place size j n before (m ∷ moves) ms d h =
    back_other id place size j n before moves _ d (by_test (λ x. MarkersFit j n x) (stands_at id place (slice_get before m.0)) (marker_less id size m ms) ms (λ e. marker_less_other id size j n m ms d h) (λ e. h))

-- RECORDS UNDONE
-- the accessible portion reaches from one place to another at least
abbrev pub Encloses : Buffer → (min max : ℕ) → Type 0
Encloses b min max = (b.begin ≤ min) × (max ≤ b.end)

point_set : (id place : ℕ) (site : Site) → site.buffer.begin ≤ place → place ≤ site.buffer.end → SiteFits id site → Fitting id site (set_point place site)
point_set id place site h k f = record { fits = record { begin_fits = f.begin_fits; end_fits = f.end_fits; begin_to_point = h; point_to_end = k; marks_fit = f.marks_fit }; others = λ j n d x. x; same_shapes = refl }

one_fits : (id : ℕ) (w : Rec) (behind : List (ℕ × ℤ)) (site : Site) (min max : ℕ) → Within w min max → Encloses site.buffer min max → SiteFits id site → Fitting id site (undo_one id w behind site)
one_fits id (Inserted from to) behind site min max h b f =
    let p : Fitting id site (set_point from site) = point_set id from site (omega (arith, b.0, h.0)) (omega (arith, h.1, h.2, b.1)) f in
    fitting_then id site (set_point from site) _ p (deleted_fits id from to (set_point from site) h.1 (omega (arith, h.2, b.1, f.end_fits)) p.fits)
one_fits id (Deleted piece place) behind site min max h b f =
    let p : Fitting id site (set_point place site) = point_set id place site (omega (arith, b.0, h.0)) (omega (arith, h.1, b.1)) f in
    let q : Fitting id (set_point place site) (inserted id place piece false false (set_point place site)) = inserted_fits id place piece false false (set_point place site) (omega (arith, h.1, b.1, f.end_fits)) p.fits in
    fitting_then id site (set_point place site) _ p (record {
      fits = record {
        begin_fits = q.fits.begin_fits;
        end_fits = q.fits.end_fits;
        begin_to_point = q.fits.begin_to_point;
        point_to_end = q.fits.point_to_end;
        marks_fit = record { markers = back_fits id place (length (splice place place piece site.buffer.text)) site.marks.markers behind _ q.fits.marks_fit.markers; overlays = q.fits.marks_fit.overlays; saved = q.fits.marks_fit.saved };
      };
      others = λ j n d x. let y : MarksFit j n (inserted id place piece false false (set_point place site)).marks = q.others j n d x in record { markers = back_other id place (length (splice place place piece site.buffer.text)) j n site.marks.markers behind _ d y.markers; overlays = y.overlays; saved = y.saved };
      same_shapes = q.same_shapes;
    })
one_fits id (Prop name (Some old) from to) behind site min max h b f = properties_fits id (Add ((name, old) ∷ []) []) from to site h.1 (omega (arith, h.2, b.1, f.end_fits)) f
one_fits id (Prop name None from to) behind site min max h b f = properties_fits id (Remove (name ∷ [])) from to site h.1 (omega (arith, h.2, b.1, f.end_fits)) f
one_fits id (Point place) behind site min max h b f = point_set id place site (omega (arith, b.0, h.0)) (omega (arith, h.1, b.1)) f
one_fits id First behind site min max h b f = record { fits = record { begin_fits = f.begin_fits; end_fits = f.end_fits; begin_to_point = f.begin_to_point; point_to_end = f.point_to_end; marks_fit = f.marks_fit }; others = λ j n d x. x; same_shapes = refl }
one_fits id Boundary behind site min max h b f = fitting_self id site f
one_fits id (Moved m a) behind site min max h b f = fitting_self id site f

properties_enclose : (edit : PropEdit) (from to : ℕ) (b : Buffer) (min max : ℕ) → Encloses b min max → Encloses (with_properties edit from to b) min max
properties_enclose edit from to b min max h = go (property_records edit from to b.text)
  where
    go : (rs : List Rec) → Encloses (elim rs [ [] ↦ b | r ∷ rs ↦ record b { text = with_sets from to (edited edit) b.text; modified = true; undo = Rattle.text_model.specs.Commit.recorded (r ∷ rs) b } ]) min max
    go [] = h
    go (r ∷ rs) = h

-- the accessible portion goes on reaching as far as the trial follows it
one_encloses : (id : ℕ) (w : Rec) (behind : List (ℕ × ℤ)) (site : Site) (min max : ℕ) → Within w min max → Encloses site.buffer min max → Encloses (undo_one id w behind site).buffer min (max_after max w)
one_encloses id (Inserted from to) behind site min max h b =
    let x : (after_delete from to site.buffer.begin ≤ site.buffer.begin) × (site.buffer.begin - (to - from) ≤ after_delete from to site.buffer.begin) = delete_between from to site.buffer.begin in
    let y : (after_delete from to site.buffer.end ≤ site.buffer.end) × (site.buffer.end - (to - from) ≤ after_delete from to site.buffer.end) = delete_between from to site.buffer.end in
    (omega (arith, x.0, b.0), omega (arith, y.1, b.1))
one_encloses id (Deleted piece place) behind site min max h b =
    let x : after_insert place (length piece) false site.buffer.begin ≡ site.buffer.begin = insert_stays place (length piece) site.buffer.begin (omega (arith, b.0, h.0)) in
    let y : after_insert place (length piece) true site.buffer.end ≡ site.buffer.end + length piece = insert_moves place (length piece) site.buffer.end (omega (arith, h.1, b.1)) in
    (omega (arith, x, b.0), omega (arith, y, b.1))
one_encloses id (Prop name (Some old) from to) behind site min max h b = properties_enclose (Add ((name, old) ∷ []) []) from to site.buffer min max b
one_encloses id (Prop name None from to) behind site min max h b = properties_enclose (Remove (name ∷ [])) from to site.buffer min max b
one_encloses id (Point place) behind site min max h b = b
one_encloses id First behind site min max h b = b
one_encloses id Boundary behind site min max h b = b
one_encloses id (Moved m a) behind site min max h b = b

pub each_fits : (id : ℕ) (es : List Entry) (site : Site) (min max bound : ℕ) → Falling bound es → trial min max es ≡ None → Encloses site.buffer min max →
    AreOrdered site.buffer.text → Falling site.buffer.undo.next site.buffer.undo.entries → OffIsEmpty site.buffer.undo → SiteFits id site → Fitting id site (undo_each id es site)
each_fits id [] site min max bound g t b r f o s = fitting_self id site s
each_fits id (e ∷ es) site min max bound g t b r f o s =
    let x : Within e.what min max × (trial min (max_after max e.what) es ≡ None) = trial_more min max e es g.1.0 t in
    let next : Site = undo_one id e.what (moves_behind es) site in
    let y : Outcome site.buffer next.buffer × (next.buffer.text ≡ undo_in_text e.what site.buffer.text) = one_record id e.what (moves_behind es) site min max x.0 (omega (arith, b.1, s.end_fits)) r f o in
    let l : Encloses next.buffer min (max_after max e.what) = one_encloses id e.what (moves_behind es) site min max x.0 b in
    let z : Fitting id site next = one_fits id e.what (moves_behind es) site min max x.0 b s in
    fitting_then id site next _ z (each_fits id es next min (max_after max e.what) e.serial g.1.1 x.1 l y.0.ordered y.0.moves.steps.falling y.0.moves.off z.fits)
