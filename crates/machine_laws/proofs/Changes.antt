-- The changes of a buffer: what is newer than a boundary rewinds to the same text before and after.
use Rattle.std.proofs.Common.{◌≡◌, ℕ, zero, suc, ◌+◌, ◌-◌, ◌≤◌, Bool, true, false, List, [], ◌∷◌, ◌++◌, length, map, take, drop, refl, ap, sym, subst, ◌∙◌, arith}
use Rattle.std.specs.Prelude.{if◌then◌else◌, ◌==◌, ◌&&◌, not, nat_le, Option, Some, None, pos, ◌-ℤ◌}
use Rattle.std.specs.List.{filter_map, enumerate_from, cons_option}
use Rattle.std.proofs.lemmas.List.{length-append, length-take-le, length-drop, length-map}
use Rattle.text_model.specs.Properties.{PropSet, PropEdit, Cell, splice, part, with_sets, edited}
use Rattle.text_model.specs.Marks.{Marker, Spot}
use Rattle.text_model.specs.Ordered.{IsOrdered, AreOrdered, GivesOrdered}
use Rattle.text_model.specs.Undo.{Rec, Point, Inserted, Deleted, Prop, First, Moved, Undo, undo_in_text, pushed, pushed_all}
use Rattle.text_model.specs.Commit.{Buffer, Site, recorded, inserted, deleted, deletion_records, adjustment, fresh_group, with_properties, property_records}
use Rattle.machine_laws.specs.Good.{Falling, OffIsEmpty}
use Rattle.text_model.proofs.Sets.{ordered-edited}
use Rattle.text_model.proofs.Cases.{by_test}
use Rattle.machine_laws.proofs.Undoing.{deleted_back}
use Rattle.machine_laws.proofs.Stretches.{undo_records, AreProps, props-records, property_undone}
use Rattle.machine_laws.proofs.Records.{ArePlain, Moves, moves_then, moves_stay, pushed_moves, inserted_moves, pushed_all_moves}

-- TEXTS IN ORDER
pub ordered-append : (xs ys : List Cell) → AreOrdered xs → AreOrdered ys → AreOrdered (xs ++ ys)
ordered-append [] ys h k = k
ordered-append (c ∷ xs) ys h k = (h.0, ordered-append xs ys h.1 k)

pub ordered-take : (n : ℕ) (xs : List Cell) → AreOrdered xs → AreOrdered (take n xs)
ordered-take zero xs h = tt
ordered-take (suc n) [] h = tt
ordered-take (suc n) (c ∷ xs) h = (h.0, ordered-take n xs h.1)

pub ordered-drop : (n : ℕ) (xs : List Cell) → AreOrdered xs → AreOrdered (drop n xs)
ordered-drop zero xs h = h
ordered-drop (suc n) [] h = tt
ordered-drop (suc n) (c ∷ xs) h = ordered-drop n xs h.1

pub ordered-part : (from to : ℕ) (text : List Cell) → AreOrdered text → AreOrdered (part from to text)
ordered-part from to text h = ordered-drop from (take to text) (ordered-take to text h)

pub ordered-splice : (from to : ℕ) (piece text : List Cell) → AreOrdered piece → AreOrdered text → AreOrdered (splice from to piece text)
ordered-splice from to piece text p h = ordered-append (take from text) (piece ++ drop to text) (ordered-take from text h) (ordered-append piece (drop to text) p (ordered-drop to text h))

ordered-map : (f : PropSet → PropSet) (xs : List Cell) → ((set : PropSet) → IsOrdered set → IsOrdered (f set)) → AreOrdered xs → AreOrdered (map (λ c. (c.0, f c.1)) xs)
ordered-map f [] g h = tt
ordered-map f (c ∷ xs) g h = (g c.1 h.0, ordered-map f xs g h.1)

pub ordered-with_sets : (from to : ℕ) (f : PropSet → PropSet) (text : List Cell) → ((set : PropSet) → IsOrdered set → IsOrdered (f set)) → AreOrdered text → AreOrdered (with_sets from to f text)
ordered-with_sets from to f text g h = ordered-splice from to (map (λ c. (c.0, f c.1)) (part from to text)) text (ordered-map f (part from to text) g (ordered-part from to text h)) h

-- LENGTHS
pub length-splice : (from to : ℕ) (piece text : List Cell) → from ≤ to → to ≤ length text → length (splice from to piece text) + (to - from) ≡ length text + length piece
length-splice from to piece text h k =
    let a : length (take from text) ≡ from = length-take-le from text (omega arith) in
    let b : length (drop to text) ≡ length text - to = length-drop to text in
    let c : length (take from text ++ (piece ++ drop to text)) ≡ length (take from text) + length (piece ++ drop to text) = length-append (take from text) (piece ++ drop to text) in
    let d : length (piece ++ drop to text) ≡ length piece + length (drop to text) = length-append piece (drop to text) in
    omega arith

pub length-with_sets : (from to : ℕ) (f : PropSet → PropSet) (text : List Cell) → from ≤ to → to ≤ length text → length (with_sets from to f text) ≡ length text
length-with_sets from to f text h k =
    let m : List Cell = map (λ c. (c.0, f c.1)) (part from to text) in
    let a : length (splice from to m text) + (to - from) ≡ length text + length m = length-splice from to m text h k in
    let b : length m ≡ length (part from to text) = length-map (part from to text) (λ c. (c.0, f c.1)) in
    let c : length (part from to text) ≡ length (take to text) - from = length-drop from (take to text) in
    let d : length (take to text) ≡ to = length-take-le to text k in
    let e : length (with_sets from to f text) + (to - from) ≡ length text + (to - from) = a ∙ ap (λ n. length text + n) (b ∙ c ∙ ap (λ n. n - from) d) in
    omega arith

-- RECORDS
undo_records-append : (xs ys : List Rec) (w : List Cell) → undo_records (xs ++ ys) w ≡ undo_records xs (undo_records ys w)
undo_records-append [] ys w = refl
undo_records-append (r ∷ xs) ys w = ap (undo_in_text r) (undo_records-append xs ys w)

plain-append : (xs ys : List Rec) → ArePlain xs → ArePlain ys → ArePlain (xs ++ ys)
plain-append [] ys h k = k
plain-append (r ∷ xs) ys h k = (h.0, (h.1.0, plain-append xs ys h.1.1 k))

plain-props : (rs : List Rec) → AreProps rs → ArePlain rs
plain-props [] h = tt
plain-props (Prop n o a b ∷ rs) h = (tt, (h.0, plain-props rs h.1))
plain-props (_ ∷ rs) h = absurd h

-- those that say nothing of the text
abbrev pub AreMoves : List Rec → Type 0
AreMoves [] = Unit {0}
AreMoves (Point p ∷ rs) = AreMoves rs
AreMoves (Moved m a ∷ rs) = AreMoves rs
AreMoves (_ ∷ rs) = ⊥

moves_nothing : (rs : List Rec) (w : List Cell) → AreMoves rs → undo_records rs w ≡ w
moves_nothing [] w h = refl
moves_nothing (Point p ∷ rs) w h = moves_nothing rs w h
moves_nothing (Moved m a ∷ rs) w h = moves_nothing rs w h
moves_nothing (_ ∷ rs) w h = absurd h

plain-moves : (rs : List Rec) → AreMoves rs → ArePlain rs
plain-moves [] h = tt
plain-moves (Point p ∷ rs) h = (tt, (tt, plain-moves rs h))
plain-moves (Moved m a ∷ rs) h = (tt, (tt, plain-moves rs h))
plain-moves (_ ∷ rs) h = absurd h

pub moves-append : (xs ys : List Rec) → AreMoves xs → AreMoves ys → AreMoves (xs ++ ys)
moves-append [] ys h k = k
moves-append (Point p ∷ xs) ys h k = moves-append xs ys h k
moves-append (Moved m a ∷ xs) ys h k = moves-append xs ys h k
moves-append (_ ∷ xs) ys h k = absurd h

pub marker_moves : (id from to : ℕ) (ms : List (ℕ × Marker)) → AreMoves (filter_map (adjustment id from to) ms)
marker_moves id from to [] = tt
marker_moves id from to (m ∷ ms) = go m.1.spot (marker_moves id from to ms)
  where
    more : List Rec
    more = filter_map (adjustment id from to) ms

    go : (o : Option Spot) → AreMoves more → AreMoves (cons_option (elim o [
      | None ↦ None
      | Some s ↦
          let end : ℕ = if m.1.advances then to else from in
          if (s.buffer == id) && ((nat_le from s.place && nat_le s.place to) && not (s.place == end)) then Some (Moved m.0 (pos end -ℤ pos s.place)) else None
    ]) more)
    go None h = h
    go (Some s) h =
        by_test (λ r. AreMoves (cons_option r more)) ((s.buffer == id) && ((nat_le from s.place && nat_le s.place to) && not (s.place == (if m.1.advances then to else from)))) (Some (Moved m.0 (pos (if m.1.advances then to else from) -ℤ pos s.place))) None (λ k. h) (λ k. h)

-- A BUFFER BEFORE AND AFTER
pub record Outcome (b c : Buffer) : Type 0 where
  pub moves : Moves b.undo b.text c.undo c.text
  pub ordered : AreOrdered c.text

recorded_moves : (rs : List Rec) (b : Buffer) (w : List Cell) → ArePlain rs → Falling b.undo.next b.undo.entries → OffIsEmpty b.undo → Moves b.undo (undo_records rs w) (recorded rs b) w
recorded_moves rs b w p f o = by_test (λ l. Moves b.undo (undo_records rs w) (pushed_all l b.undo) w) b.modified rs (First ∷ rs) (λ h. pushed_all_moves rs b.undo w p f o) (λ h. pushed_all_moves (First ∷ rs) b.undo w (tt, (tt, p)) f o)

pub inserted_outcome : (id at : ℕ) (piece : List Cell) (all advances : Bool) (site : Site) → at ≤ length site.buffer.text → AreOrdered piece → AreOrdered site.buffer.text → Falling site.buffer.undo.next site.buffer.undo.entries → OffIsEmpty site.buffer.undo →
    Outcome site.buffer (inserted id at piece all advances site).buffer
inserted_outcome id at piece all advances site inside p h f o = record {
  moves = go site.buffer.modified;
  ordered = ordered-splice at at piece site.buffer.text p h;
}
  where
    u : Undo
    u = site.buffer.undo

    t : List Cell
    t = site.buffer.text

    go : (m : Bool) → Moves u t (pushed_all (if m then Inserted at (at + length piece) ∷ [] else First ∷ Inserted at (at + length piece) ∷ []) u) (splice at at piece t)
    go true = inserted_moves u at piece t inside f o
    go false =
        let m : Moves u t (pushed First u) t = pushed_moves First u t tt tt f o in
        moves_then u (pushed First u) _ t t _ m (inserted_moves (pushed First u) at piece t inside m.steps.falling m.off)

pub deleted_outcome : (id from to : ℕ) (site : Site) → from ≤ to → to ≤ length site.buffer.text → AreOrdered site.buffer.text → Falling site.buffer.undo.next site.buffer.undo.entries → OffIsEmpty site.buffer.undo →
    Outcome site.buffer (deleted id from to site).buffer
deleted_outcome id from to site h k r f o = record {
  moves = subst (λ x. Moves u x (recorded (deletion_records id from to site) site.buffer) (splice from to [] t)) back (recorded_moves (deletion_records id from to site) site.buffer (splice from to [] t) plain f o);
  ordered = ordered-splice from to [] t tt r;
}
  where
    u : Undo
    u = site.buffer.undo

    t : List Cell
    t = site.buffer.text

    point : List Rec
    point = if fresh_group u.entries && not (site.buffer.point == from) then Point site.buffer.point ∷ [] else []

    markers : List Rec
    markers = filter_map (adjustment id from to) (enumerate_from 0 site.marks.markers)

    rest_moves : AreMoves (point ++ markers)
    rest_moves = moves-append point markers (by_test (λ l. AreMoves l) (fresh_group u.entries && not (site.buffer.point == from)) (Point site.buffer.point ∷ []) [] (λ h. tt) (λ h. tt)) (marker_moves id from to (enumerate_from 0 site.marks.markers))

    back : undo_records (deletion_records id from to site) (splice from to [] t) ≡ t
    back = undo_records-append (point ++ markers) (Deleted (part from to t) from ∷ []) (splice from to [] t) ∙ moves_nothing (point ++ markers) _ rest_moves ∙ deleted_back from to t h k

    plain : ArePlain (deletion_records id from to site)
    plain = plain-append (point ++ markers) (Deleted (part from to t) from ∷ []) (plain-moves (point ++ markers) rest_moves) (tt, (ordered-part from to t r, tt))

-- a change of properties: its text is the one with the sets changed, also where no record was made
pub text-with_properties : (edit : PropEdit) (from to : ℕ) (b : Buffer) → from ≤ to → AreOrdered b.text → GivesOrdered edit → (with_properties edit from to b).text ≡ with_sets from to (edited edit) b.text
text-with_properties edit from to b h r g = go (property_records edit from to b.text) (property_undone edit from to b.text h r g)
  where
    go : (rs : List Rec) → undo_records rs (with_sets from to (edited edit) b.text) ≡ b.text →
        let c : Buffer = elim rs [ [] ↦ b | r ∷ records ↦ record b { text = with_sets from to (edited edit) b.text; modified = true; undo = recorded (r ∷ records) b } ] in c.text ≡ with_sets from to (edited edit) b.text
    go [] e = sym e
    go (r ∷ rs) e = refl

pub properties_outcome : (edit : PropEdit) (from to : ℕ) (b : Buffer) → from ≤ to → AreOrdered b.text → GivesOrdered edit → Falling b.undo.next b.undo.entries → OffIsEmpty b.undo → Outcome b (with_properties edit from to b)
properties_outcome edit from to b h r g f o = go (property_records edit from to b.text) (plain-props _ (props-records edit from to b.text)) (property_undone edit from to b.text h r g)
  where
    go : (rs : List Rec) → ArePlain rs → undo_records rs (with_sets from to (edited edit) b.text) ≡ b.text →
        Outcome b (elim rs [ [] ↦ b | r ∷ records ↦ record b { text = with_sets from to (edited edit) b.text; modified = true; undo = recorded (r ∷ records) b } ])
    go [] p e = record { moves = moves_stay b.undo b.text f o; ordered = r }
    go (x ∷ rs) p e = record {
      moves = subst (λ y. Moves b.undo y (recorded (x ∷ rs) b) (with_sets from to (edited edit) b.text)) e (recorded_moves (x ∷ rs) b (with_sets from to (edited edit) b.text) p f o);
      ordered = ordered-with_sets from to (edited edit) b.text (λ set k. ordered-edited edit set g k) r;
    }
