-- The buffer of a number, as it is shown.
use Rattle.std.proofs.Common.{◌≡◌, ℕ, zero, suc, ◌+◌, ◌*◌, ◌<◌, ◌≤◌, true, List, [], ◌∷◌, All, length, map, take, get_or, refl, sym, ap, subst, ◌∙◌, add-one, arith}
use Rattle.std.specs.Prelude.{Option, Some, None, option_map, unwrap_or, is_some, slice_get, IfSome}
use Rattle.std.proofs.lemmas.Option.{same_Some, slice_get-map}
use Rattle.std.proofs.lemmas.List.{take_all}
use Rattle.std.proofs.lemmas.List.Elements.{All-head, All-tail}
use Rattle.std.specs.List.{zip}
use Rattle.text_model.specs.Commit.{Buffer}
use Rattle.text_model.specs.Places.{clip}
use Rattle.text_model.specs.Marks.{Spot, Span, Saved}
use Rattle.narrow_region.specs.Kept as kept
use Rattle.editor_model.specs.Editor as shown
use Rattle.editor_model.specs.Editor.{Editor, Live, live, buffer_at, empty_buffer, characters_in, change_buffer}
use Rattle.editor_model.specs.TextCalls.{widened}
use Rattle.editor_model.proofs.OneBuffer.{changed_alike}
use Rattle.marker_set.specs.Numbered.{nowhere, marker_at}
use Rattle.overlay_set.specs.Numbered.{no_overlay, overlay_at, span_at}
use Rattle.text_pool.specs.Pool.{Pooled}
use Rattle.gap_text.specs.Text.{Gapped, characters, LiesIn}
use Rattle.buffer_core.proofs.Zips.{length-zip}
use Rattle.buffer_core.specs.Meaning.{Stored, IsStored, buffer_of}
use Rattle.buffer_core.specs.Standing.{MarkerWithin, OverlayWithin}
use Rattle.buffer_table.specs.Kept.{Named, Kept, Lives, IsKept, is_live, named_at, live_of, editor_of, blocks_in, cells_in}
use Rattle.gap_text.proofs.Texts.{length_characters}
use Rattle.buffer_table.specs.Standing.{MarkerIn, OverlayIn}
use Rattle.buffer_table.specs.Places.{IsPlace, IsKeptIn}
use Rattle.buffer_table.proofs.KeptLemmas.{some_lives, live_in, named_is, live_out, live_is, buffer_is, zip-shorter}

pub is_shown : (e : Editor) (id : ℕ) (b : Buffer) → Some b ≡ option_map (λ l. l.buffer) (live e id) → buffer_at e id ≡ b
is_shown e id b h = go (live e id) h
  where
    go : (o : Option Live) → Some b ≡ option_map (λ l. l.buffer) o → (let x : Buffer = elim o [ Some l ↦ l.buffer | None ↦ empty_buffer ] in x) ≡ b
    go None h = cc
    go (Some l) h = cc

pub not_shown : (e : Editor) (id : ℕ) → None ≡ option_map (λ l. l.buffer) (live e id) → buffer_at e id ≡ empty_buffer
not_shown e id h = go (live e id) h
  where
    go : (o : Option Live) → None ≡ option_map (λ l. l.buffer) o → (let x : Buffer = elim o [ Some l ↦ l.buffer | None ↦ empty_buffer ] in x) ≡ empty_buffer
    go None h = refl
    go (Some l) h = cc

-- an item of a list that was found
pub got : {A : Type 0} (xs : List A) (i : ℕ) (x : A) → i < length xs → x ≡ get_or xs i x → slice_get xs i ≡ Some x
got [] i x l e = absurd (omega arith)
got (y ∷ xs) zero x l e = ap Some (sym e)
got (y ∷ xs) (suc i) x l e = got xs i x (omega arith) e

-- each character has a property set
pub shown_size : (e : Editor) (id n : ℕ) (pool : Pooled) (b : Stored) (text : Gapped) → text ≡ b.text → Some (buffer_of pool b) ≡ option_map (λ l. l.buffer) (live e id) → LiesIn pool b.text → IsStored b
    → ((p : Pooled) → LiesIn p text → n ≡ length (characters p text)) → n + text.spare ≡ 256 * length text.blocks → (length (buffer_at e id).text ≡ n) × (length (buffer_at e id).text ≡ length b.sets)
shown_size e id n pool b text same h lies stored size cells =
    let m : n ≡ length (characters pool b.text) = size pool (subst (LiesIn pool) (sym same) lies) ∙ ap (λ t. length (characters pool t)) same in
    let q : n + b.text.spare ≡ 256 * length b.text.blocks = ap (λ (t : Gapped). n + t.spare) (sym same) ∙ cells ∙ ap (λ (t : Gapped). 256 * length t.blocks) same in
    let k : n ≡ length b.sets = omega (arith, stored.size) in
    let s : length (zip (characters pool b.text) b.sets) ≡ length b.sets = length-zip (characters pool b.text) b.sets (omega arith) in
    let t : length (buffer_at e id).text ≡ length (zip (characters pool b.text) b.sets) = ap (λ (x : Buffer). length x.text) (is_shown e id (buffer_of pool b) h) in
    (omega arith, omega arith)

-- the sets of the characters of a buffer
sets_of_zip : {A B : Type 0} (xs : List A) (ys : List B) → length xs ≡ length ys → map (λ c. c.1) (zip xs ys) ≡ ys
sets_of_zip [] [] h = refl
sets_of_zip [] (y ∷ ys) h = cc
sets_of_zip (x ∷ xs) [] h = cc
sets_of_zip (x ∷ xs) (y ∷ ys) h = ap (λ zs. y ∷ zs) (sets_of_zip xs ys (omega arith))

pub sets_of : (k : Kept) (id : ℕ) (b : Stored) (n size : ℕ) (text : Gapped) → shown.buffer_at (editor_of k) id ≡ buffer_of k.pool b → LiesIn k.pool b.text → IsStored b → text ≡ b.text
    → ((p : Pooled) → LiesIn p text → size ≡ length (characters p text)) → size + text.spare ≡ 256 * length text.blocks → b.sets ≡ map (λ c. c.1) (shown.buffer_at (editor_of k) id).text
sets_of k id b n size text shown_is lies stored same count cells =
    let m : size ≡ length (characters k.pool b.text) = count k.pool (subst (LiesIn k.pool) (sym same) lies) ∙ ap (λ t. length (characters k.pool t)) same in
    let q : size + b.text.spare ≡ 256 * length b.text.blocks = ap (λ (t : Gapped). size + t.spare) (sym same) ∙ cells ∙ ap (λ (t : Gapped). 256 * length t.blocks) same in
    let all : length (characters k.pool b.text) ≡ length b.sets = omega (arith, stored.size) in
    sym (ap (λ (x : Buffer). map (λ c. c.1) x.text) shown_is ∙ sets_of_zip (characters k.pool b.text) b.sets all)

-- THE BUFFER OF A NUMBER
pub record Found (k : Kept) (id : ℕ) (b : Stored) : Type 0 where
  pub option : Some (buffer_of k.pool b) ≡ option_map (λ (l : Live). l.buffer) (live (editor_of k) id)
  pub is : shown.buffer_at (editor_of k) id ≡ buffer_of k.pool b
  pub lies : LiesIn k.pool b.text
  pub named : b ≡ (named_at k.buffers id).buffer

pub found_here : (k : Kept) (id : ℕ) (b : Stored) → IsKept k → Some b ≡ option_map (λ n. n.buffer) (unwrap_or (slice_get k.buffers id) None) → Found k id b
found_here k id b kept h = go (slice_get k.buffers id) refl h
  where
    go : (o : Option (Option Named)) → slice_get k.buffers id ≡ o → Some b ≡ option_map (λ n. n.buffer) (unwrap_or o None) → Found k id b
    go None e h = cc
    go (Some None) e h = cc
    go (Some (Some n)) e h =
        let same : b ≡ n.buffer = same_Some b n.buffer h in
        record {
          option = ap (λ (x : Stored). Some (buffer_of k.pool x)) same ∙ sym (ap (option_map (λ (l : Live). l.buffer)) (live_is k id n e));
          is = buffer_is k id n e ∙ ap (buffer_of k.pool) (sym same);
          lies = subst (λ (x : Stored). LiesIn k.pool x.text) (sym same) (kept.all.lie id n e);
          named = same ∙ sym (ap (λ (m : Named). m.buffer) (named_is k.buffers id n e));
        }

pub none_found : (k : Kept) (id : ℕ) → None ≡ option_map (λ (n : Named). n.buffer) (unwrap_or (slice_get k.buffers id) None) → None ≡ option_map (λ (l : Live). l.buffer) (live (editor_of k) id)
none_found k id h = go (slice_get k.buffers id) h ∙ ap (λ o. option_map (λ (l : Live). l.buffer) (unwrap_or o None)) (sym (slice_get-map (option_map (live_of k.pool)) k.buffers id))
  where
    go : (o : Option (Option Named)) → None ≡ option_map (λ (n : Named). n.buffer) (unwrap_or o None) → None ≡ option_map (λ (l : Live). l.buffer) (unwrap_or (option_map (option_map (live_of k.pool)) o) None)
    go None h = refl
    go (Some None) h = refl
    go (Some (Some n)) h = cc

pub not_alive : (e : Editor) (id : ℕ) → None ≡ option_map (λ (l : Live). l.buffer) (live e id) → shown.is_live e id ≡ true → ⊥
not_alive e id h l = go (live e id) h l
  where
    go : (o : Option Live) → None ≡ option_map (λ (l : Live). l.buffer) o → is_some o ≡ true → ⊥
    go None h l = cc
    go (Some x) h l = cc

-- THE CHARACTERS OF ALL TEXTS
pub characters_step : (e : Editor) (id n : ℕ) → id < length e.buffers → n ≡ length (buffer_at e id).text → characters_in (take (id + 1) e.buffers) ≡ characters_in (take id e.buffers) + n
characters_step e id n h s = ap (λ k. characters_in (take k e.buffers)) (add-one id) ∙ go e.buffers id h ∙ ap (λ m. characters_in (take id e.buffers) + m) (sym s)
  where
    size : (bs : List (Option Live)) (id : ℕ) → ℕ
    size bs id = let b : Buffer = elim (unwrap_or (slice_get bs id) None) [ Some l ↦ l.buffer | None ↦ empty_buffer ] in length b.text

    go : (bs : List (Option Live)) (id : ℕ) → id < length bs → characters_in (take (suc id) bs) ≡ characters_in (take id bs) + size bs id
    go [] id h = absurd (omega arith)
    go (None ∷ bs) zero h = refl
    go (Some l ∷ bs) zero h = omega arith
    go (None ∷ bs) (suc id) h = go bs id (omega arith)
    go (Some l ∷ bs) (suc id) h = let r : characters_in (take (suc id) bs) ≡ characters_in (take id bs) + size bs id = go bs id (omega arith) in omega arith

pub characters_all : (e : Editor) (n total : ℕ) → n ≡ length e.buffers → total ≡ characters_in (take n e.buffers) → total ≡ characters_in e.buffers
characters_all e n total h t = t ∙ ap characters_in (take_all n e.buffers (omega arith))

-- THE POOL ACCOUNT
pub account_cells : (pool : Pooled) (buffers : List (Option Named)) → ((id : ℕ) (n : Named) → Lives buffers id n → LiesIn pool n.buffer.text) → 256 * blocks_in buffers ≡ cells_in pool buffers
account_cells pool [] lie = refl
account_cells pool (None ∷ buffers) lie = account_cells pool buffers (λ id n l. lie (suc id) n l)
account_cells pool (Some m ∷ buffers) lie =
    let rest : 256 * blocks_in buffers ≡ cells_in pool buffers = account_cells pool buffers (λ id n l. lie (suc id) n l) in
    let here : length (characters pool m.buffer.text) + m.buffer.text.spare ≡ 256 * length m.buffer.text.blocks = length_characters pool m.buffer.text (lie 0 m refl) in
    omega arith

-- the texts have no more characters than their cells
pub characters_below : (pool : Pooled) (buffers : List (Option Named)) → characters_in (map (option_map (live_of pool)) buffers) ≤ cells_in pool buffers
characters_below pool [] = omega arith
characters_below pool (None ∷ buffers) = characters_below pool buffers
characters_below pool (Some m ∷ buffers) =
    let rest : characters_in (map (option_map (live_of pool)) buffers) ≤ cells_in pool buffers = characters_below pool buffers in
    let here : length (live_of pool m).buffer.text ≤ length (characters pool m.buffer.text) = (zip-shorter (characters pool m.buffer.text) m.buffer.sets).0 in
    omega arith

-- PLACES OF MARKERS AND OVERLAYS
at_or : {A : Type 0} (P : A → Type 0) (xs : List A) (j : ℕ) (d : A) → P d → All P xs → P (unwrap_or (slice_get xs j) d)
at_or P [] j d h w = h
at_or P (x ∷ xs) zero d h w = All-head P x xs w
at_or P (x ∷ xs) (suc j) d h w = at_or P xs j d h (All-tail P x xs w)

is_place : (k : Kept) (id place size : ℕ) → is_live k.buffers id ≡ true → ((n : Named) → Lives k.buffers id n → place ≤ length n.buffer.sets) → size ≡ length (shown.buffer_at (editor_of k) id).text
    → (shown.is_live (editor_of k) id ≡ true → size ≡ length (named_at k.buffers id).buffer.sets) → IsPlace (editor_of k) id place
is_place k id place size lives within exact sets =
    let n = some_lives k.buffers id lives in
    let l : place ≤ length n.0.buffer.sets = within n.0 n.1 in
    let alive : shown.is_live (editor_of k) id ≡ true = live_out k id lives in
    let e : length (named_at k.buffers id).buffer.sets ≡ length n.0.buffer.sets = ap (λ (m : Named). length m.buffer.sets) (named_is k.buffers id n.0 n.1) in
    record { live = alive; within = omega (arith, sets alive) }

pub marker_place : (k : Kept) (j id place size : ℕ) → IsKept k → (shown.marker_of (editor_of k) j).spot ≡ Some (record { buffer = id; place = place }) → size ≡ length (shown.buffer_at (editor_of k) id).text
    → (shown.is_live (editor_of k) id ≡ true → size ≡ length (named_at k.buffers id).buffer.sets) → IsPlace (editor_of k) id place
marker_place k j id place size kept at exact sets =
    let stands : IfSome (marker_at k.marks.markers j).spot (λ s. is_live k.buffers s.buffer ≡ true) = at_or (MarkerIn (is_live k.buffers)) k.marks.markers j nowhere tt kept.all.stand.markers in
    is_place k id place size (subst (λ (o : Option Spot). IfSome o (λ s. is_live k.buffers s.buffer ≡ true)) at stands)
    (λ n l. let w : IfSome (marker_at k.marks.markers j).spot (λ s. s.buffer ≡ id → s.place ≤ length n.buffer.sets) = at_or (MarkerWithin id (length n.buffer.sets)) k.marks.markers j nowhere tt (kept.all.within id n l).markers in
    subst (λ (o : Option Spot). IfSome o (λ s. s.buffer ≡ id → s.place ≤ length n.buffer.sets)) at w refl) exact sets

pub overlay_places : (k : Kept) (j id from to size : ℕ) → IsKept k → (shown.overlay_of (editor_of k) j).span ≡ Some (span_at (id, from, to)) → size ≡ length (shown.buffer_at (editor_of k) id).text
    → (shown.is_live (editor_of k) id ≡ true → size ≡ length (named_at k.buffers id).buffer.sets) → IsPlace (editor_of k) id from × IsPlace (editor_of k) id to
overlay_places k j id from to size kept at exact sets =
    let stands : IfSome (overlay_at k.marks.overlays j).span (λ s. is_live k.buffers s.buffer ≡ true) = at_or (OverlayIn (is_live k.buffers)) k.marks.overlays j no_overlay tt kept.all.stand.overlays in
    let lives : is_live k.buffers id ≡ true = subst (λ (o : Option Span). IfSome o (λ s. is_live k.buffers s.buffer ≡ true)) at stands in
    let within : (n : Named) → Lives k.buffers id n → (from ≤ length n.buffer.sets) × (to ≤ length n.buffer.sets) = λ n l.
    let w : IfSome (overlay_at k.marks.overlays j).span (λ s. s.buffer ≡ id → (s.start ≤ length n.buffer.sets) × (s.end ≤ length n.buffer.sets)) = at_or (OverlayWithin id (length n.buffer.sets)) k.marks.overlays j no_overlay tt (kept.all.within id n l).overlays in
    subst (λ (o : Option Span). IfSome o (λ s. s.buffer ≡ id → (s.start ≤ length n.buffer.sets) × (s.end ≤ length n.buffer.sets))) at w refl
    in
    (is_place k id from size lives (λ n l. (within n l).0) exact sets, is_place k id to size lives (λ n l. (within n l).1) exact sets)

-- KEPT PLACES
pub kept_in : (k : Kept) (s : Saved) (size id : ℕ) → id ≡ kept.buffer_of s → size ≡ length (shown.buffer_at (editor_of k) id).text → (shown.is_live (editor_of k) id ≡ true → size ≡ length (named_at k.buffers id).buffer.sets)
    → ((n : Named) → Lives k.buffers (kept.buffer_of s) n → kept.last_place s ≤ length n.buffer.sets) → IsKeptIn (editor_of k) s
kept_in k s size id same exact sets within alive =
    let here : shown.is_live (editor_of k) id ≡ true = subst (λ i. shown.is_live (editor_of k) i ≡ true) (sym same) alive in
    let n = some_lives k.buffers (kept.buffer_of s) (live_in k (kept.buffer_of s) alive) in
    let l : kept.last_place s ≤ length n.0.buffer.sets = within n.0 n.1 in
    let e : length (named_at k.buffers id).buffer.sets ≡ length n.0.buffer.sets =
    ap (λ i. length (named_at k.buffers i).buffer.sets) same ∙ ap (λ (m : Named). length m.buffer.sets) (named_is k.buffers (kept.buffer_of s) n.0 n.1) in
    let f : length (shown.buffer_at (editor_of k) id).text ≡ length (shown.buffer_at (editor_of k) (kept.buffer_of s)).text = ap (λ i. length (shown.buffer_at (editor_of k) i).text) same in
    omega (arith, sets here)

-- WIDENING
pub widened_to : (e : Editor) (id size : ℕ) → size ≡ length (buffer_at e id).text → (buffer_at e id).point ≤ size → change_buffer id (λ b. record b { begin = 0; end = size; point = clip 0 size b.point }) e ≡ change_buffer id widened e
widened_to e id size h l =
    let b : Buffer = buffer_at e id in
    let p : clip 0 size b.point ≡ b.point = omega arith in
    changed_alike e id (λ b. record b { begin = 0; end = size; point = clip 0 size b.point }) widened
    (ap (λ q. let x : Buffer = record b { begin = 0; end = size; point = q } in x) p ∙ ap (λ n. let x : Buffer = record b { begin = 0; end = n } in x) h)
