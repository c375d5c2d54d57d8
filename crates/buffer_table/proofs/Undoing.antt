-- Groups undone leave the marks of other buffers within their texts, and all marks in the buffers in which they stood.
use Rattle.std.proofs.Common.{◌≡◌, ◌≢◌, ℕ, zero, suc, ◌≤◌, ℤ, Bool, true, false, List, [], ◌∷◌, All, Option, Some, None, option_map, length, Result, Ok, Err, refl, subst, sym, ap, ◌∙◌}
use Rattle.std.specs.Prelude.{IfSome, OnOk, OnErr, ◌==◌, ◌-ℤ◌, pos, if◌then◌else◌, slice_get, slice_set}
use Rattle.std.proofs.lemmas.Bool.{eqb-true}
use Rattle.std.proofs.lemmas.Option.{same_Some}
use Rattle.std.proofs.lemmas.List.Elements.{All-head, All-tail, All-set}
use Rattle.text_model.specs.Places.{clip}
use Rattle.text_model.specs.Undo.{Rec, Boundary, Point, Inserted, Deleted, Prop, First, Moved, Entry}
use Rattle.text_model.specs.Marks.{Marks, Marker, Spot, insertion}
use Rattle.text_model.specs.Commit.{Site, undo_one, undo_each, undone_groups, moves_behind, moved_back, marker_less, less, spot_less, place_of, stands_at, set_point, inserted}
use Rattle.text_model.proofs.Cases.{by_test}
use Rattle.text_pool.specs.Pool.{Pooled}
use Rattle.gap_text.specs.Text.{LiesIn}
use Rattle.buffer_core.specs.Blocks.{ChangesBlocks}
use Rattle.buffer_core.specs.Meaning.{Stored, site_of}
use Rattle.buffer_core.specs.Standing.{AreWithin, MarkerWithin}
use Rattle.buffer_core.proofs.StandingLemmas.{moved_elsewhere, deleted_elsewhere}
use Rattle.buffer_table.specs.Standing.{MarkerIn, StandIn}
use Rattle.buffer_table.proofs.StandLemmas.{stand_moved, stand_deleted}
use Rattle.buffer_table.proofs.KeptLemmas.{Changes}

-- MARKERS MOVED BACK
there : {A : Type 0} (P : A → Type 0) (xs : List A) (k : ℕ) (x : A) → All P xs → slice_get xs k ≡ Some x → P x
there P [] k x w h = cc
there P (y ∷ xs) zero x w h = subst P (same_Some y x h) (All-head P y xs w)
there P (y ∷ xs) (suc k) x w h = there P xs k x (All-tail P y xs w) h

one_back : (P : Marker → Type 0) (id size : ℕ) → ((a : ℤ) (m : Marker) → P m → P (less id size a m)) → (move : ℕ × ℤ) (markers : List Marker) → All P markers → All P (marker_less id size move markers)
one_back P id size h move markers w = go (slice_get markers move.0) refl
  where
    go : (o : Option Marker) → slice_get markers move.0 ≡ o → All P (elim o [ None ↦ markers | Some marker ↦ slice_set markers move.0 (less id size move.1 marker) ])
    go None e = w
    go (Some marker) e = All-set P markers move.0 (less id size move.1 marker) (h move.1 marker (there P markers move.0 marker w e)) w

all_back : (P : Marker → Type 0) (id place size : ℕ) → ((a : ℤ) (m : Marker) → P m → P (less id size a m)) → (before : List Marker) (moves : List (ℕ × ℤ)) (markers : List Marker) → All P markers → All P (moved_back id place size before moves markers)
all_back P id place size h before [] markers w = w
all_back P id place size h before (m ∷ moves) markers w =
    all_back P id place size h before moves (if stands_at id place (slice_get before m.0) then marker_less id size m markers else markers)
    (by_test (All P) (stands_at id place (slice_get before m.0)) (marker_less id size m markers) markers (λ _. one_back P id size h m markers w) (λ _. w))

less_elsewhere : (id size other bound : ℕ) → other ≢ id → (a : ℤ) (m : Marker) → MarkerWithin other bound m → MarkerWithin other bound (less id size a m)
less_elsewhere id size other bound apart a m w = go m.spot w
  where
    go : (o : Option Spot) → IfSome o (λ s. s.buffer ≡ other → s.place ≤ bound) → IfSome (option_map (spot_less id size a) o) (λ s. s.buffer ≡ other → s.place ≤ bound)
    go None w = w
    go (Some s) w = by_test (λ (t : Spot). t.buffer ≡ other → t.place ≤ bound) (s.buffer == id) (record s { place = clip 0 size (place_of (pos s.place -ℤ a)) }) s
        (λ k e. absurd (apart (sym e ∙ eqb-true s.buffer id k)))
        (λ k e. w e)

less_stands : (among : ℕ → Bool) (id size : ℕ) (a : ℤ) (m : Marker) → MarkerIn among m → MarkerIn among (less id size a m)
less_stands among id size a m w = go m.spot w
  where
    go : (o : Option Spot) → IfSome o (λ s. among s.buffer ≡ true) → IfSome (option_map (spot_less id size a) o) (λ s. among s.buffer ≡ true)
    go None w = w
    go (Some s) w = by_test (λ (t : Spot). among t.buffer ≡ true) (s.buffer == id) (record s { place = clip 0 size (place_of (pos s.place -ℤ a)) }) s (λ _. w) (λ _. w)

-- RECORDS
one_elsewhere : (id other size : ℕ) → other ≢ id → (r : Rec) (behind : List (ℕ × ℤ)) (s : Site) → AreWithin other size s.marks → AreWithin other size (undo_one id r behind s).marks
one_elsewhere id other size apart (Inserted from to) behind s w = deleted_elsewhere id other from to size s.marks apart w
one_elsewhere id other size apart (Deleted piece place) behind s w =
    let after : Site = inserted id place piece false false (set_point place s) in
    let moved : AreWithin other size after.marks = moved_elsewhere id other size false (insertion place (length piece)) s.marks apart w in
    record {
      markers = all_back (MarkerWithin other size) id place (length after.buffer.text) (less_elsewhere id (length after.buffer.text) other size apart) s.marks.markers behind after.marks.markers moved.markers;
      overlays = moved.overlays;
      saved = moved.saved;
    }
one_elsewhere id other size apart (Prop name (Some old) from to) behind s w = w
one_elsewhere id other size apart (Prop name None from to) behind s w = w
one_elsewhere id other size apart (Point place) behind s w = w
one_elsewhere id other size apart First behind s w = w
one_elsewhere id other size apart Boundary behind s w = w
one_elsewhere id other size apart (Moved marker adjustment) behind s w = w

one_stands : (among : ℕ → Bool) (id : ℕ) (r : Rec) (behind : List (ℕ × ℤ)) (s : Site) → StandIn among s.marks → StandIn among (undo_one id r behind s).marks
one_stands among id (Inserted from to) behind s w = stand_deleted among id from to s.marks w
one_stands among id (Deleted piece place) behind s w =
    let after : Site = inserted id place piece false false (set_point place s) in
    let moved : StandIn among after.marks = stand_moved among id false (insertion place (length piece)) s.marks w in
    record {
      markers = all_back (MarkerIn among) id place (length after.buffer.text) (less_stands among id (length after.buffer.text)) s.marks.markers behind after.marks.markers moved.markers;
      overlays = moved.overlays;
    }
one_stands among id (Prop name (Some old) from to) behind s w = w
one_stands among id (Prop name None from to) behind s w = w
one_stands among id (Point place) behind s w = w
one_stands among id First behind s w = w
one_stands among id Boundary behind s w = w
one_stands among id (Moved marker adjustment) behind s w = w

each_elsewhere : (id other size : ℕ) → other ≢ id → (entries : List Entry) (s : Site) → AreWithin other size s.marks → AreWithin other size (undo_each id entries s).marks
each_elsewhere id other size apart [] s w = w
each_elsewhere id other size apart (e ∷ entries) s w =
    each_elsewhere id other size apart entries (undo_one id e.what (moves_behind entries) s) (one_elsewhere id other size apart e.what (moves_behind entries) s w)

each_stands : (among : ℕ → Bool) (id : ℕ) (entries : List Entry) (s : Site) → StandIn among s.marks → StandIn among (undo_each id entries s).marks
each_stands among id [] s w = w
each_stands among id (e ∷ entries) s w = each_stands among id entries (undo_one id e.what (moves_behind entries) s) (one_stands among id e.what (moves_behind entries) s w)

-- by the clauses of `Buffer::apply_plan`
pub applied_changes : {T E : Type 0} (r : Result T E) (id : ℕ) (entries : List Entry) (before after : Stored) (marks moved : Marks) (old new : Pooled)
    → LiesIn new after.text → ChangesBlocks before.text.blocks after.text.blocks old new → AreWithin id (length after.sets) moved
    → OnOk r (site_of new after moved ≡ undone_groups id entries (site_of old before marks)) → OnErr r (site_of new after moved ≡ site_of old before marks)
    → Changes id before after marks moved old new
applied_changes (Ok x) id entries before after marks moved old new lies blocks here ok err =
    record {
      lies = lies;
      blocks = blocks;
      here = here;
      stand = λ among w. subst (StandIn among) (sym (ap (λ (s : Site). s.marks) ok)) (each_stands among id entries _ w);
      elsewhere = λ other size apart w. subst (AreWithin other size) (sym (ap (λ (s : Site). s.marks) ok)) (each_elsewhere id other size apart entries _ w);
    }
applied_changes (Err x) id entries before after marks moved old new lies blocks here ok err =
    record {
      lies = lies;
      blocks = blocks;
      here = here;
      stand = λ among w. subst (StandIn among) (sym (ap (λ (s : Site). s.marks) err)) w;
      elsewhere = λ other size apart w. subst (AreWithin other size) (sym (ap (λ (s : Site). s.marks) err)) w;
    }
