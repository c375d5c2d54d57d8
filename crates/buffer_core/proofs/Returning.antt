-- Markers taken back as deleted text is put back.
use Rattle.std.proofs.Common.{◌≡◌, ℕ, zero, suc, ◌+◌, ◌≤◌, ℤ, Bool, true, false, List, [], ◌∷◌, ◌++◌, length, drop, All, Option, Some, None, refl, ap, sym, ◌∙◌, arith, option_map, append_assoc, append-nil}
use Rattle.std.specs.Prelude.{slice_get, slice_set, IfSome, if◌then◌else◌, ◌==◌, pos, ◌-ℤ◌}
use Rattle.std.proofs.lemmas.Bool.{eqb-false}
use Rattle.std.proofs.lemmas.List.Elements.{All-cons, All-head, All-tail}
use Rattle.text_model.specs.Places.{clip}
use Rattle.text_model.specs.Properties.{Cell}
use Rattle.text_model.specs.Undo.{Moved, Deleted, Entry}
use Rattle.text_model.specs.Marks.{Marks, Marker, Spot}
use Rattle.text_model.specs.Commit.{moves_behind, stands_at, marker_less, less, spot_less, place_of, moved_back, Site, inserted, set_point, undo_one}
use Rattle.text_model.proofs.Cases.{by_test}
use Rattle.text_model.proofs.Lists.{drop_at}
use Rattle.undo_list.specs.Records.{rec_of}
use Rattle.undo_list.specs.declared.rec.Rec as coded
use Rattle.undo_list.specs.declared.rec.Rec.TheVariants as variant
use Rattle.text_pool.specs.Pool.{Pooled}
use Rattle.buffer_core.specs.Meaning.{Stored, site_of}
use Rattle.buffer_core.specs.Standing.{MarkerWithin, AreWithin}
use Rattle.buffer_core.specs.Undoing.{standing, all_less}

-- THE RECORDS BEHIND A DELETION'S
pub behind_at : (es : List Entry) (j : ℕ) (e : Entry) → slice_get es j ≡ Some e → moves_behind (drop j es) ≡ moves_behind (e ∷ drop (j + 1) es)
behind_at es j e h = ap moves_behind (drop_at es j e h)

pub standing_more : (id place : ℕ) (markers : List Marker) (m : ℕ × ℤ) (moves : List (ℕ × ℤ)) → standing id place markers (m ∷ moves) ≡ standing id place markers (m ∷ []) ++ standing id place markers moves
standing_more id place markers m moves = go (stands_at id place (slice_get markers m.0))
  where
    go : (t : Bool) → (if t then m ∷ standing id place markers moves else standing id place markers moves) ≡ (if t then m ∷ [] else []) ++ standing id place markers moves
    go true = refl
    go false = refl

-- MARKERS
pub moved_back_standing : (id place size : ℕ) (before : List Marker) (moves : List (ℕ × ℤ)) (markers : List Marker) → all_less id size (standing id place before moves) markers ≡ moved_back id place size before moves markers
moved_back_standing id place size before [] markers = refl
moved_back_standing id place size before (m ∷ moves) markers = go (stands_at id place (slice_get before m.0)) (λ ms. moved_back_standing id place size before moves ms)
  where
    go : (t : Bool) → ((ms : List Marker) → all_less id size (standing id place before moves) ms ≡ moved_back id place size before moves ms)
        → all_less id size (if t then m ∷ standing id place before moves else standing id place before moves) markers ≡ moved_back id place size before moves (if t then marker_less id size m markers else markers)
    go true rest = rest (marker_less id size m markers)
    go false rest = rest markers

set_within : (P : Marker → Type 0) (markers : List Marker) (k : ℕ) (m : Marker) → All P markers → P m → All P (slice_set markers k m)
set_within P [] k m all h = all
set_within P (x ∷ markers) zero m all h = All-cons P m markers h (All-tail P x markers all)
set_within P (x ∷ markers) (suc k) m all h = All-cons P x (slice_set markers k m) (All-head P x markers all) (set_within P markers k m (All-tail P x markers all) h)

less_within : (id size : ℕ) (adjustment : ℤ) (m : Marker) → MarkerWithin id size (less id size adjustment m)
less_within id size adjustment m = go m.spot
  where
    go : (o : Option Spot) → IfSome (option_map (spot_less id size adjustment) o) (λ s. s.buffer ≡ id → s.place ≤ size)
    go None = tt
    go (Some s) = by_test (λ t. t.buffer ≡ id → t.place ≤ size) (s.buffer == id) (record s { place = clip 0 size (place_of (pos s.place -ℤ adjustment)) }) s
        (λ k e. omega arith)
        (λ k e. absurd (eqb-false s.buffer id k e))

marker_less_within : (id size : ℕ) (m : ℕ × ℤ) (markers : List Marker) → All (MarkerWithin id size) markers → All (MarkerWithin id size) (marker_less id size m markers)
marker_less_within id size m markers all = go (slice_get markers m.0)
  where
    go : (o : Option Marker) → All (MarkerWithin id size) (elim o [ None ↦ markers | Some marker ↦ slice_set markers m.0 (less id size m.1 marker) ])
    go None = all
    go (Some marker) = set_within (MarkerWithin id size) markers m.0 (less id size m.1 marker) all (less_within id size m.1 marker)

pub all_less_within : (id size : ℕ) (moves : List (ℕ × ℤ)) (markers : List Marker) → All (MarkerWithin id size) markers → All (MarkerWithin id size) (all_less id size moves markers)
all_less_within id size [] markers all = all
all_less_within id size (m ∷ moves) markers all = all_less_within id size moves (marker_less id size m markers) (marker_less_within id size m markers all)

pub taken_back_within : (id size : ℕ) (moves : List (ℕ × ℤ)) (marks : Marks) → AreWithin id size marks → AreWithin id size (record marks { markers = all_less id size moves marks.markers })
taken_back_within id size moves marks w = record { markers = all_less_within id size moves marks.markers w.markers; overlays = w.overlays; saved = w.saved }

-- ONE RECORD MORE
pub moved_on : (id place : ℕ) (markers : List Marker) (es : List Entry) (j : ℕ) (r : coded.Rec) (serial k : ℕ) (a : ℤ) (whole done more : List (ℕ × ℤ))
    → slice_get es j ≡ Some (record { what = rec_of r; serial = serial }) → r ≡ variant.Moved k a
    → whole ≡ done ++ standing id place markers (moves_behind (drop j es)) → more ≡ done ++ standing id place markers ((k, a) ∷ [])
    → whole ≡ more ++ standing id place markers (moves_behind (drop (j + 1) es))
moved_on id place markers es j r serial k a whole done more at is so_far added =
    let here : slice_get es j ≡ Some (record { what = Moved k a; serial = serial }) = at ∙ ap (λ (s : coded.Rec). Some (record { what = rec_of s; serial = serial })) is in
    so_far ∙ ap (λ l. done ++ standing id place markers l) (behind_at es j (record { what = Moved k a; serial = serial }) here)
    ∙ ap (λ l. done ++ l) (standing_more id place markers (k, a) (moves_behind (drop (j + 1) es)))
    ∙ sym (append_assoc done (standing id place markers ((k, a) ∷ [])) (standing id place markers (moves_behind (drop (j + 1) es))))
    ∙ ap (λ l. l ++ standing id place markers (moves_behind (drop (j + 1) es))) (sym added)

pub no_moves : (id place : ℕ) (markers : List Marker) (es : List Entry) (j : ℕ) (r : coded.Rec) (serial : ℕ) (whole done : List (ℕ × ℤ))
    → slice_get es j ≡ Some (record { what = rec_of r; serial = serial }) → ((k : ℕ) (a : ℤ) → r ≡ variant.Moved k a → ⊥)
    → whole ≡ done ++ standing id place markers (moves_behind (drop j es)) → whole ≡ done
no_moves id place markers es j r serial whole done at other so_far =
    so_far ∙ ap (λ l. done ++ standing id place markers l) (behind_at es j _ at ∙ none r other) ∙ append-nil done
  where
    none : (s : coded.Rec) → ((k : ℕ) (a : ℤ) → s ≡ variant.Moved k a → ⊥) → moves_behind (record { what = rec_of s; serial = serial } ∷ drop (j + 1) es) ≡ []
    none variant.Boundary h = refl
    none (variant.Point p) h = refl
    none (variant.Inserted from to) h = refl
    none (variant.Deleted piece p) h = refl
    none (variant.Prop name old from to) h = refl
    none variant.First h = refl
    none (variant.Moved k a) h = absurd (h k a refl)

-- THE SITE
pub put_back_site : (id place size : ℕ) (piece : List Cell) (pool new_pool : Pooled) (old new : Stored) (marks new_marks : Marks) (behind moves : List (ℕ × ℤ)) (markers : List Marker)
    → site_of new_pool new new_marks ≡ inserted id place piece false false (set_point place (site_of pool old marks))
    → size ≡ length (site_of new_pool new new_marks).buffer.text
    → moves ≡ standing id place marks.markers behind
    → markers ≡ all_less id size moves new_marks.markers
    → site_of new_pool new (record new_marks { markers = markers }) ≡ undo_one id (Deleted piece place) behind (site_of pool old marks)
put_back_site id place size piece pool new_pool old new marks new_marks behind moves markers site is_size is_moves is_markers =
    let here : markers ≡ moved_back id place (length (site_of new_pool new new_marks).buffer.text) marks.markers behind new_marks.markers =
    is_markers ∙ ap (λ ms. all_less id size ms new_marks.markers) is_moves ∙ moved_back_standing id place size marks.markers behind new_marks.markers
    ∙ ap (λ n. moved_back id place n marks.markers behind new_marks.markers) is_size in
    ap (λ ms. site_of new_pool new (record new_marks { markers = ms })) here
    ∙ ap (λ (s : Site). record s { marks = record s.marks { markers = moved_back id place (length s.buffer.text) marks.markers behind s.marks.markers } }) site
