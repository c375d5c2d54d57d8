-- A piece put in, or a part taken out, in a buffer that may be widened first.
use Rattle.std.proofs.Common.{◌≡◌, ℕ, zero, suc, ◌+◌, ◌≤◌, Bool, true, false, List, [], ◌∷◌, ◌++◌, length, take, drop, refl, sym, ap, ◌∙◌, arith, length-append, length-take, length-drop}
use Rattle.std.specs.Prelude.{◌==◌, if◌then◌else◌, Option, Some, None, is_some, unwrap_or, slice_get, slice_set}
use Rattle.text_model.proofs.Lists.{set_same}
use Rattle.text_model.specs.Properties.{Cell, splice}
use Rattle.text_model.specs.Places.{clip}
use Rattle.text_model.specs.Commit.{Buffer, Site, replaced, no_pending, deleted}
use Rattle.editor_model.specs.Commits.{put_site, first_widened}
use Rattle.editor_model.specs.TextCalls.{narrowed, widened}
use Rattle.editor_model.specs.Editor.{Editor, Live, live, is_live, buffer_at, empty_buffer, change_site, change_buffer}
use Rattle.buffer_table.specs.Places.{IsPlace}
use Rattle.prim_changes.proofs.Twice.{step, twice, lives_still}

-- what becomes of a live buffer that is changed
pub buffer_after : (e : Editor) (id : ℕ) (f : Site → Site) → is_live e id ≡ true → buffer_at (change_site id f e) id ≡ (f (record { buffer = buffer_at e id; marks = e.marks })).buffer
buffer_after e id f h = go (slice_get e.buffers id) refl
  where
    go : (o : Option (Option Live)) → slice_get e.buffers id ≡ o → buffer_at (change_site id f e) id ≡ (f (record { buffer = buffer_at e id; marks = e.marks })).buffer
    go None k = absurd (let d : is_live e id ≡ false = ap (λ o. is_some (unwrap_or o None)) k in cc)
    go (Some None) k = absurd (let d : is_live e id ≡ false = ap (λ o. is_some (unwrap_or o None)) k in cc)
    go (Some (Some l)) k =
        let first : Site = f (record { buffer = l.buffer; marks = e.marks }) in
        let after : Live = record l { buffer = first.buffer } in
        let here : live e id ≡ Some l = ap (λ o. unwrap_or o None) k in
        ap (λ (x : Editor). buffer_at x id) (step e id f l here)
        ∙ ap (λ (o : Option (Option Live)). let b : Buffer = elim (unwrap_or o None) [ Some l ↦ l.buffer | None ↦ empty_buffer ] in b) (set_same e.buffers id (Some after) (Some l) k)
        ∙ ap (λ (o : Option Live). (f (record { buffer = (let b : Buffer = elim o [ Some l ↦ l.buffer | None ↦ empty_buffer ] in b); marks = e.marks })).buffer) (sym here)

-- WIDENED, AND NARROWED BACK
pub widened_size : (e : Editor) (id : ℕ) → is_live e id ≡ true → length (buffer_at (change_buffer id widened e) id).text ≡ length (buffer_at e id).text
widened_size e id h = ap (λ (b : Buffer). length b.text) (buffer_after e id (λ site. record site { buffer = widened site.buffer }) h)

set_own : {A : Type 0} (xs : List A) (k : ℕ) (x : A) → slice_get xs k ≡ Some x → slice_set xs k x ≡ xs
set_own [] k x h = refl
set_own (y ∷ xs) zero x h = ap (λ z. z ∷ xs) (let e : x ≡ y = cc in e)
set_own (y ∷ xs) (suc k) x h = ap (λ ys. y ∷ ys) (set_own xs k x h)

pub unchanged_by : (e : Editor) (id : ℕ) (f : Buffer → Buffer) → is_live e id ≡ true → f (buffer_at e id) ≡ buffer_at e id → change_buffer id f e ≡ e
unchanged_by e id f h same = go (slice_get e.buffers id) refl
  where
    go : (o : Option (Option Live)) → slice_get e.buffers id ≡ o → change_buffer id f e ≡ e
    go None k = absurd (let d : is_live e id ≡ false = ap (λ o. is_some (unwrap_or o None)) k in cc)
    go (Some None) k = absurd (let d : is_live e id ≡ false = ap (λ o. is_some (unwrap_or o None)) k in cc)
    go (Some (Some l)) k =
        let here : live e id ≡ Some l = ap (λ o. unwrap_or o None) k in
        let own : buffer_at e id ≡ l.buffer = ap (λ (o : Option Live). let b : Buffer = elim o [ Some l ↦ l.buffer | None ↦ empty_buffer ] in b) here in
        let kept : f l.buffer ≡ l.buffer = ap f (sym own) ∙ same ∙ own in
        step e id (λ site. record site { buffer = f site.buffer }) l here
        ∙ ap (λ (b : Buffer). let x : Editor = record e { buffers = slice_set e.buffers id (Some (record l { buffer = b })); marks = e.marks } in x) kept
        ∙ ap (λ (bs : List (Option Live)). let x : Editor = record e { buffers = bs } in x) (set_own e.buffers id (Some l) k)

pub narrowed_back : (e : Editor) (id start end : ℕ) → is_live e id ≡ true → start ≡ (buffer_at e id).begin → end ≡ (buffer_at e id).end → start ≤ (buffer_at e id).point → (buffer_at e id).point ≤ end
    → change_buffer id (narrowed start end) (change_buffer id widened e) ≡ e
narrowed_back e id start end h s t low high =
    let b : Buffer = buffer_at e id in
    let p : clip start end b.point ≡ b.point = omega arith in
    twice e id (λ site. record site { buffer = widened site.buffer }) (λ site. record site { buffer = narrowed start end site.buffer })
    ∙ unchanged_by e id (λ b. narrowed start end (widened b)) h
    (ap (λ q. let x : Buffer = record b { begin = start; end = end; point = q } in x) p
    ∙ ap (λ q. let x : Buffer = record b { begin = q; end = end } in x) s
    ∙ ap (λ q. let x : Buffer = record b { end = q } in x) t)

pub put_in_widened : (e : Editor) (id from to : ℕ) (piece : List Cell) (all point_after : Bool)
    → change_site id (put_site id from to piece all point_after false) (change_buffer id widened e) ≡ change_site id (put_site id from to piece all point_after true) e
put_in_widened e id from to piece all point_after = twice e id (λ site. record site { buffer = widened site.buffer }) (put_site id from to piece all point_after false)

-- BEHIND THE PIECE
spliced : (from to : ℕ) (piece text : List Cell) → from ≤ to → to ≤ length text → from + length piece ≤ length (splice from to piece text)
spliced from to piece text order range =
    let a : length (splice from to piece text) ≡ length (take from text) + length (piece ++ drop to text) = length-append (take from text) (piece ++ drop to text) in
    let b : length (piece ++ drop to text) ≡ length piece + length (drop to text) = length-append piece (drop to text) in
    omega (arith, length-take from text, length-drop to text)

replaced_size : (id from to : ℕ) (piece : List Cell) (all : Bool) (site : Site) → from ≤ to → to ≤ length site.buffer.text → from + length piece ≤ length (replaced id from to piece all site).buffer.text
replaced_size id from to [] all site order range = go (from == to)
  where
    go : (b : Bool) → from + length {A = Cell} [] ≤ length (let x : Site = if b then site else no_pending (deleted id from to site) in x).buffer.text
    go true = let n : length {A = Cell} [] ≡ 0 = refl in omega arith
    go false = spliced from to [] site.buffer.text order range
replaced_size id from to (c ∷ piece) all site order range = spliced from from (c ∷ piece) site.buffer.text (omega arith) (omega arith)

put_size : (id from to : ℕ) (piece : List Cell) (all point_after widen : Bool) (site : Site) → from ≤ to → to ≤ length site.buffer.text → from + length piece ≤ length (put_site id from to piece all point_after widen site).buffer.text
put_size id from to piece all true true site order range = replaced_size id from to piece all (first_widened true site) order range
put_size id from to piece all true false site order range = replaced_size id from to piece all (first_widened false site) order range
put_size id from to piece all false true site order range = replaced_size id from to piece all (first_widened true site) order range
put_size id from to piece all false false site order range = replaced_size id from to piece all (first_widened false site) order range

pub behind_it : (e new : Editor) (id from to behind : ℕ) (piece : List Cell) (all point_after widen : Bool) → is_live e id ≡ true → from ≤ to → to ≤ length (buffer_at e id).text → behind ≡ from + length piece
    → new ≡ change_site id (put_site id from to piece all point_after widen) e → IsPlace new id behind
behind_it e new id from to behind piece all point_after widen h order range at e_new =
    let site : Site = record { buffer = buffer_at e id; marks = e.marks } in
    let size : from + length piece ≤ length (put_site id from to piece all point_after widen site).buffer.text = put_size id from to piece all point_after widen site order range in
    let after : length (buffer_at new id).text ≡ length (put_site id from to piece all point_after widen site).buffer.text =
    ap (λ (x : Editor). length (buffer_at x id).text) e_new ∙ ap (λ (b : Buffer). length b.text) (buffer_after e id (put_site id from to piece all point_after widen) h) in
    record {
      live = ap (λ (x : Editor). is_live x id) e_new ∙ lives_still e id (put_site id from to piece all point_after widen) h;
      within = omega arith;
    }
