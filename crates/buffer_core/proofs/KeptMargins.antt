-- Undoing leaves the margins of a text.
use Rattle.std.proofs.Common.{◌≡◌, ℕ, zero, suc, ◌+◌, ◌-◌, ◌<◌, ◌≤◌, ℤ, Bool, true, List, [], ◌∷◌, ◌++◌, length, map, take, drop, All, Option, Some, None, refl, ap, sym, subst, ◌∙◌, arith}
use Rattle.std.specs.Prelude.{slice_get, IfSome}
use Rattle.std.proofs.lemmas.List.{map-append, take-map, drop-map, take-take, take-append-le, length-append, length-take-le, length-drop, length-map}
use Rattle.std.proofs.Math.Seq.{drop-append-add, drop-nil}
use Rattle.text_model.specs.Characters.{Ch}
use Rattle.text_model.specs.Properties.{PropEdit, PropSet, Add, Remove, Cell, splice, part, with_sets, edited}
use Rattle.text_model.specs.Undo.{Rec, Boundary, Point, Inserted, Deleted, Prop, First, Moved, Entry, Undo, max_after}
use Rattle.text_model.specs.Marks.{Marks}
use Rattle.text_model.specs.Commit.{Buffer, Site, undo_one, moves_behind, with_properties, property_records, recorded}
use Rattle.text_model.proofs.Lists.{drop_at, All-slice_get}
use Rattle.text_pool.specs.Pool.{Pooled}
use Rattle.gap_text.specs.Text.{characters}
use Rattle.undo_list.specs.State.{Recording}
use Rattle.buffer_core.specs.Meaning.{Stored, CanBeUndone, buffer_of, site_of, letters}
use Rattle.buffer_core.specs.Margins.{LiesBetween, AllBetween, SameMargins}
use Rattle.buffer_core.specs.Undoing.{StaysButForPoint}
use Rattle.buffer_core.proofs.Runs.{part_whole}
use Rattle.buffer_core.proofs.Sizes.{length-spliced}
use Rattle.buffer_core.proofs.UndoLemmas.{none_behind}
use Rattle.buffer_core.proofs.Zips.{letters-zip}
use Rattle.std.specs.List.{zip}

-- LISTS
behind_both : {A : Type 0} (to n : ℕ) (xs : List A) → drop n (drop to xs) ≡ drop (to + n) xs
behind_both zero n xs = ap (λ k. drop k xs) (let e : n ≡ 0 + n = omega arith in e)
behind_both (suc to) n [] = drop-nil n ∙ sym (drop-nil (suc to + n))
behind_both (suc to) n (x ∷ xs) = behind_both to n xs ∙ ap (λ k. drop k (x ∷ xs)) (let e : suc (to + n) ≡ suc to + n = omega arith in e)

-- a part between the margins replaced
pub spliced_margins : (front behind from to : ℕ) (xs more : List Ch) → front ≤ from → from ≤ to → to + behind ≤ length xs → SameMargins front behind xs (take from xs ++ (more ++ drop to xs))
spliced_margins front behind from to xs more f o b =
    let size : length (take from xs) ≡ from = length-take-le from xs (omega (arith, o, b)) in
    let rest : length (drop to xs) ≡ length xs - to = length-drop to xs in
    let inner : length (more ++ drop to xs) ≡ length more + length (drop to xs) = length-append more (drop to xs) in
    let whole : length (take from xs ++ (more ++ drop to xs)) ≡ length (take from xs) + length (more ++ drop to xs) = length-append (take from xs) (more ++ drop to xs) in
    let k : ℕ = length xs - to - behind in
    let at : length (take from xs ++ (more ++ drop to xs)) - behind ≡ length (take from xs) + (length more + k) = omega (arith, whole, inner, rest, b) in
    record {
      room = omega (arith, whole, inner, size, rest, f, o, b);
      first = take-append-le front (take from xs) (more ++ drop to xs) (omega (arith, size, f)) ∙ take-take front from xs f;
      last =
          ap (λ n. drop n (take from xs ++ (more ++ drop to xs))) at
          ∙ drop-append-add (take from xs) (more ++ drop to xs) (length more + k)
          ∙ drop-append-add more (drop to xs) k
          ∙ behind_both to k xs
          ∙ ap (λ n. drop n xs) (let e : to + k ≡ length xs - behind = omega (arith, b) in e);
    }

pub same_twice : (front behind : ℕ) (a b c : List Ch) → SameMargins front behind a b → SameMargins front behind b c → SameMargins front behind a c
same_twice front behind a b c x y = record { room = y.room; first = y.first ∙ x.first; last = y.last ∙ x.last }

pub same_as : (front behind : ℕ) (a b : List Ch) → front + behind ≤ length a → b ≡ a → SameMargins front behind a b
same_as front behind a b room e = record { room = omega (arith, room, ap length e); first = ap (take front) e; last = ap (λ t. drop (length t - behind) t) e }

-- LETTERS
letters_spliced : (from to : ℕ) (piece text : List Cell) → letters (splice from to piece text) ≡ take from (letters text) ++ (letters piece ++ drop to (letters text))
letters_spliced from to piece text =
    map-append (λ (c : Cell). c.0) (take from text) (piece ++ drop to text)
    ∙ ap (λ t. letters (take from text) ++ t) (map-append (λ (c : Cell). c.0) piece (drop to text))
    ∙ ap (λ t. t ++ (letters piece ++ letters (drop to text))) (sym (take-map (λ (c : Cell). c.0) from text))
    ∙ ap (λ t. take from (letters text) ++ (letters piece ++ t)) (sym (drop-map (λ (c : Cell). c.0) to text))

letters_changed : (change : PropSet → PropSet) (cells : List Cell) → letters (map (λ c. (c.0, change c.1)) cells) ≡ letters cells
letters_changed change [] = refl
letters_changed change (c ∷ cells) = ap (λ t. c.0 ∷ t) (letters_changed change cells)

letters_with_sets : (from to : ℕ) (change : PropSet → PropSet) (text : List Cell) → from ≤ to → letters (with_sets from to change text) ≡ letters text
letters_with_sets from to change text h =
    letters_spliced from to (map (λ c. (c.0, change c.1)) (part from to text)) text
    ∙ ap (λ t. take from (letters text) ++ (t ++ drop to (letters text))) (letters_changed change (part from to text))
    ∙ sym (letters_spliced from to (part from to text) text)
    ∙ ap letters (part_whole from to text h)

letters_with_properties : (edit : PropEdit) (from to : ℕ) (b : Buffer) → from ≤ to → letters (with_properties edit from to b).text ≡ letters b.text
letters_with_properties edit from to b h = go (property_records edit from to b.text)
  where
    go : (rs : List Rec) → let c : Buffer = elim rs [ [] ↦ b | r ∷ records ↦ record b { text = with_sets from to (edited edit) b.text; modified = true; undo = recorded (r ∷ records) b } ] in letters c.text ≡ letters b.text
    go [] = refl
    go (r ∷ records) = letters_with_sets from to (edited edit) b.text h

-- ONE RECORD
-- what undoing a record leaves of the letters
pub record Leaves (front behind : ℕ) (w : Rec) (old new : List Ch) : Type 0 where
  pub same : SameMargins front behind old new
  pub size : length new ≡ max_after (length old) w

spliced_leaves : (front behind from to : ℕ) (piece text : List Cell) (new : List Ch) → new ≡ letters (splice from to piece text) → front ≤ from → from ≤ to → to + behind ≤ length (letters text)
    → SameMargins front behind (letters text) new × (length new ≡ length (letters text) - (to - from) + length piece)
spliced_leaves front behind from to piece text new e f o b =
    let is : new ≡ take from (letters text) ++ (letters piece ++ drop to (letters text)) = e ∙ letters_spliced from to piece text in
    let size : length new ≡ length (letters text) - (to - from) + length (letters piece) = ap length is ∙ length-spliced from to (letters text) (letters piece) o (omega (arith, b)) in
    let n : length (letters piece) ≡ length piece = length-map piece (λ (c : Cell). c.0) in (
      subst (λ t. SameMargins front behind (letters text) t) (sym is) (spliced_margins front behind from to (letters text) (letters piece) f o b),
      omega (arith, size, n),
    )

pub leaves : (front behind id : ℕ) (w : Rec) (moves : List (ℕ × ℤ)) (s : Site) → front + behind ≤ length (letters s.buffer.text) → CanBeUndone w → LiesBetween front behind (length (letters s.buffer.text)) w
    → Leaves front behind w (letters s.buffer.text) (letters (undo_one id w moves s).buffer.text)
leaves front behind id (Inserted from to) moves s room c h =
    let x = spliced_leaves front behind from to [] s.buffer.text _ refl h.0 c h.1 in
    record { same = x.0; size = omega (arith, x.1) }
leaves front behind id (Deleted piece place) moves s room c h =
    let x = spliced_leaves front behind place place piece s.buffer.text _ refl h.0 (omega arith) h.1 in
    record { same = x.0; size = omega (arith, x.1) }
leaves front behind id (Prop name (Some old) from to) moves s room c h =
    let e = letters_with_properties (Add ((name, old) ∷ []) []) from to s.buffer c.0 in
    record { same = same_as front behind _ _ room e; size = ap length e }
leaves front behind id (Prop name None from to) moves s room c h =
    let e = letters_with_properties (Remove (name ∷ [])) from to s.buffer c.0 in
    record { same = same_as front behind _ _ room e; size = ap length e }
leaves front behind id (Point place) moves s room c h = record { same = same_as front behind _ _ room refl; size = refl }
leaves front behind id First moves s room c h = record { same = same_as front behind _ _ room refl; size = refl }
leaves front behind id Boundary moves s room c h = record { same = same_as front behind _ _ room refl; size = refl }
leaves front behind id (Moved marker adjustment) moves s room c h = record { same = same_as front behind _ _ room refl; size = refl }

-- ONE RECORD AFTER THE OTHER
-- the margins of the letters as they were first are still there
abbrev pub StillThere : (es : List Entry) (i : ℕ) (first s : Site) → Type 0
StillThere es i first s = (front behind : ℕ) → front + behind ≤ length (letters first.buffer.text) → AllBetween front behind (length (letters first.buffer.text)) es
    → SameMargins front behind (letters first.buffer.text) (letters s.buffer.text) × AllBetween front behind (length (letters s.buffer.text)) (drop i es)

pub there_first : (es : List Entry) (s : Site) → StillThere es 0 s s
there_first [] s = λ front behind room between. (same_as front behind _ _ room refl, between)
there_first (e ∷ es) s = λ front behind room between. (same_as front behind _ _ room refl, between)

pub there_still : (id i : ℕ) (es : List Entry) (first s t : Site) → i < length es → All (λ e. CanBeUndone e.what) es → StillThere es i first s
    → IfSome (slice_get es i) (λ e. t ≡ undo_one id e.what (moves_behind (drop (i + 1) es)) s) → StillThere es (i + 1) first t
there_still id i es first s t h all so_far step = λ front behind room between. go front behind (so_far front behind room between) (slice_get es i) refl step
  where
    go : (front behind : ℕ) → SameMargins front behind (letters first.buffer.text) (letters s.buffer.text) × AllBetween front behind (length (letters s.buffer.text)) (drop i es)
        → (o : Option Entry) → slice_get es i ≡ o → IfSome o (λ e. t ≡ undo_one id e.what (moves_behind (drop (i + 1) es)) s)
        → SameMargins front behind (letters first.buffer.text) (letters t.buffer.text) × AllBetween front behind (length (letters t.buffer.text)) (drop (i + 1) es)
    go front behind x None k stepped = let over = none_behind es i k in absurd (omega (arith, over, h))
    go front behind x (Some e) k stepped =
        let rest : List Entry = drop (i + 1) es in
        let here : AllBetween front behind (length (letters s.buffer.text)) (e ∷ rest) = subst (AllBetween front behind (length (letters s.buffer.text))) (drop_at es i e k) x.1 in
        let l = leaves front behind id e.what (moves_behind rest) s x.0.room (All-slice_get (λ e. CanBeUndone e.what) es i e all k) here.0 in
        subst (λ (r : Site). SameMargins front behind (letters first.buffer.text) (letters r.buffer.text) × AllBetween front behind (length (letters r.buffer.text)) rest) (sym stepped)
        (same_twice front behind _ _ _ x.0 l.same, subst (λ n. AllBetween front behind n rest) (sym l.size) here.1)

-- a refusal changes no letter
pub there_refused : (es : List Entry) (i : ℕ) (first s t : Site) → StillThere es i first s → StaysButForPoint s t → (front behind : ℕ) → front + behind ≤ length (letters first.buffer.text) → AllBetween front behind (length (letters first.buffer.text)) es
    → SameMargins front behind (letters first.buffer.text) (letters t.buffer.text)
there_refused es i first s t so_far stays front behind room between =
    subst (λ (r : Site). SameMargins front behind (letters first.buffer.text) (letters r.buffer.text)) (sym stays) ((so_far front behind room between).0)

-- BY THE MARGINS
-- what stands between them, put back, is the whole
pub between_back : (front behind : ℕ) (old new middle : List Ch) → front + behind ≤ length old → SameMargins front behind old new → middle ≡ drop front (take (length old - behind) old)
    → take front new ++ (middle ++ drop (length new - behind) new) ≡ old
between_back front behind old new middle h same is =
    ap (λ t. t ++ (middle ++ drop (length new - behind) new)) same.first
    ∙ ap (λ t. take front old ++ (middle ++ t)) same.last
    ∙ ap (λ t. take front old ++ (t ++ drop (length old - behind) old)) is
    ∙ part_whole front (length old - behind) old (omega (arith, h))

-- by the clause of `undo_each`, said of characters
pub failed_margins : (old_pool new_pool : Pooled) (start pending failed : Stored) (es : List Entry) (front behind : ℕ)
    → pending ≡ record start { undo = pending.undo }
    → length (characters old_pool start.text) ≡ length start.sets → length (characters new_pool failed.text) ≡ length failed.sets
    → ((f b : ℕ) → f + b ≤ length (letters (buffer_of old_pool pending).text) → AllBetween f b (length (letters (buffer_of old_pool pending).text)) es
    → SameMargins f b (letters (buffer_of old_pool pending).text) (letters (buffer_of new_pool failed).text))
    → front + behind ≤ length start.sets → AllBetween front behind (length start.sets) es
    → SameMargins front behind (characters old_pool start.text) (characters new_pool failed.text)
failed_margins old_pool new_pool start pending failed es front behind rest old_size new_size margins room between =
    let before : letters (buffer_of old_pool pending).text ≡ characters old_pool start.text = ap (λ (b : Stored). letters (buffer_of old_pool b).text) rest ∙ letters-zip (characters old_pool start.text) start.sets old_size in
    let after : letters (buffer_of new_pool failed).text ≡ characters new_pool failed.text = letters-zip (characters new_pool failed.text) failed.sets new_size in
    let n : length (letters (buffer_of old_pool pending).text) ≡ length start.sets = ap length before ∙ old_size in
    subst (λ t. SameMargins front behind (characters old_pool start.text) t) after
    (subst (λ t. SameMargins front behind t (letters (buffer_of new_pool failed).text)) before
    (margins front behind (omega (arith, n, room)) (subst (λ k. AllBetween front behind k es) (sym n) between)))

-- a buffer that has all that another one had
pub went_back : (old_pool last_pool : Pooled) (start last : Stored) (sets : List PropSet) (begin end point : ℕ) (modified : Bool) (undo : Recording) (marks : Marks)
    → characters last_pool last.text ≡ characters old_pool start.text
    → last ≡ record { text = last.text; sets = sets; begin = begin; end = end; point = point; modified = modified; undo = undo }
    → start ≡ record { text = start.text; sets = sets; begin = begin; end = end; point = point; modified = modified; undo = start.undo }
    → undo.state ≡ start.undo.state → site_of last_pool last marks ≡ site_of old_pool start marks
went_back old_pool last_pool start last sets begin end point modified undo marks text is was state =
    ap (λ (b : Stored). site_of last_pool b marks) is
    ∙ ap (λ t. with_all t undo.state) text
    ∙ ap (λ u. with_all (characters old_pool start.text) u) state
    ∙ sym (ap (λ (b : Stored). site_of old_pool b marks) was)
  where
    with_all : List Ch → Undo → Site
    with_all t u = record { buffer = record { text = zip t sets; begin = begin; end = end; point = point; modified = modified; undo = u }; marks = marks }
