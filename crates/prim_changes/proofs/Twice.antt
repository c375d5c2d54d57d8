-- Two changes of one buffer as one.
use Rattle.std.proofs.Common.{◌≡◌, ℕ, zero, suc, ◌+◌, Bool, true, false, List, [], ◌∷◌, length, refl, sym, ap, ◌∙◌}
use Rattle.std.specs.Prelude.{Option, Some, None, is_some, unwrap_or, slice_get, slice_set}
use Rattle.text_model.proofs.Lists.{set_same}
use Rattle.text_model.specs.Commit.{Site, replaced}
use Rattle.text_model.specs.Properties.{Cell}
use Rattle.editor_model.specs.Commits.{put_site}
use Rattle.editor_model.specs.TextCalls.{point_at}
use Rattle.editor_model.specs.Editor.{Editor, Live, live, is_live, change_site, change_buffer}
use Rattle.prim_changes.proofs.Changing.{unchanged}

abbrev pub stepped : Editor → (id : ℕ) → (Site → Site) → Live → Editor
stepped e id f l =
    let site : Site = f (record { buffer = l.buffer; marks = e.marks }) in
    record e { buffers = slice_set e.buffers id (Some (record l { buffer = site.buffer })); marks = site.marks }

pub step : (e : Editor) (id : ℕ) (f : Site → Site) (l : Live) → live e id ≡ Some l → change_site id f e ≡ stepped e id f l
step e id f l h = ap (λ (o : Option Live). let x : Editor = (elim o [
  | None ↦ e
  | Some m ↦
      let site : Site = f (record { buffer = m.buffer; marks = e.marks }) in
      record e { buffers = slice_set e.buffers id (Some (record m { buffer = site.buffer })); marks = site.marks }
]) in x) h

set_twice : {A : Type 0} (xs : List A) (k : ℕ) (x y : A) → slice_set (slice_set xs k x) k y ≡ slice_set xs k y
set_twice [] k x y = refl
set_twice (z ∷ xs) zero x y = refl
set_twice (z ∷ xs) (suc k) x y = ap (λ ys. z ∷ ys) (set_twice xs k x y)

pub twice : (e : Editor) (id : ℕ) (f g : Site → Site) → change_site id g (change_site id f e) ≡ change_site id (λ s. g (f s)) e
twice e id f g = go (slice_get e.buffers id) refl
  where
    nobody : live e id ≡ None → change_site id g (change_site id f e) ≡ change_site id (λ s. g (f s)) e
    nobody h =
        let dead = ap (λ (o : Option Live). is_some o) h in
        ap (change_site id g) (sym (unchanged e id f dead)) ∙ sym (unchanged e id g dead) ∙ unchanged e id (λ s. g (f s)) dead

    go : (o : Option (Option Live)) → slice_get e.buffers id ≡ o → change_site id g (change_site id f e) ≡ change_site id (λ s. g (f s)) e
    go None h = nobody (ap (λ o. unwrap_or o None) h)
    go (Some None) h = nobody (ap (λ o. unwrap_or o None) h)
    go (Some (Some l)) h =
        let first : Site = f (record { buffer = l.buffer; marks = e.marks }) in
        let after : Live = record l { buffer = first.buffer } in
        let second : Site = g first in
        let lives : live (stepped e id f l) id ≡ Some after = ap (λ o. unwrap_or o None) (set_same e.buffers id (Some after) (Some l) h) in
        ap (change_site id g) (step e id f l (ap (λ o. unwrap_or o None) h))
        ∙ step (stepped e id f l) id g after lives
        ∙ ap (λ (bs : List (Option Live)). let x : Editor = record e { buffers = bs; marks = second.marks } in x) (set_twice e.buffers id (Some after) (Some (record l { buffer = second.buffer })))
        ∙ sym (step e id (λ s. g (f s)) l (ap (λ o. unwrap_or o None) h))

-- a buffer that changes goes on living
pub lives_still : (e : Editor) (id : ℕ) (f : Site → Site) → is_live e id ≡ true → is_live (change_site id f e) id ≡ true
lives_still e id f h = go (slice_get e.buffers id) refl
  where
    go : (o : Option (Option Live)) → slice_get e.buffers id ≡ o → is_live (change_site id f e) id ≡ true
    go None k = absurd (let d : is_live e id ≡ false = ap (λ o. is_some (unwrap_or o None)) k in cc)
    go (Some None) k = absurd (let d : is_live e id ≡ false = ap (λ o. is_some (unwrap_or o None)) k in cc)
    go (Some (Some l)) k =
        let first : Site = f (record { buffer = l.buffer; marks = e.marks }) in
        let after : Live = record l { buffer = first.buffer } in
        ap (λ (x : Editor). is_live x id) (step e id f l (ap (λ o. unwrap_or o None) k)) ∙ ap (λ o. is_some (unwrap_or o None)) (set_same e.buffers id (Some after) (Some l) k)

-- PUT IN OR TAKEN OUT, WITH NOTHING WIDENED
pub put_still : (e : Editor) (id from to : ℕ) (piece : List Cell) (all : Bool) → change_site id (replaced id from to piece all) e ≡ change_site id (put_site id from to piece all false false) e
put_still e id from to piece all = refl

pub put_moved : (e : Editor) (id from to : ℕ) (piece : List Cell) (all : Bool) → change_buffer id (point_at (from + length piece)) (change_site id (replaced id from to piece all) e) ≡ change_site id (put_site id from to piece all true false) e
put_moved e id from to piece all = twice e id (replaced id from to piece all) (λ s. record s { buffer = point_at (from + length piece) s.buffer })
