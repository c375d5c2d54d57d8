-- Changes of one live buffer.
use Rattle.std.proofs.Common.{◌≡◌, ℕ, refl, ap}
use Rattle.std.specs.Prelude.{Option, Some, None, slice_set}
use Rattle.text_model.specs.Commit.{Buffer}
use Rattle.editor_model.specs.Editor.{Editor, Live, live, buffer_at, empty_buffer, change_buffer}

-- two changes that do the same to a buffer
pub changed_alike : (e : Editor) (id : ℕ) (f g : Buffer → Buffer) → f (buffer_at e id) ≡ g (buffer_at e id) → change_buffer id f e ≡ change_buffer id g e
changed_alike e id f g h = go (live e id) h
  where
    go : (o : Option Live) → f (let b : Buffer = elim o [ Some l ↦ l.buffer | None ↦ empty_buffer ] in b) ≡ g (let b : Buffer = elim o [ Some l ↦ l.buffer | None ↦ empty_buffer ] in b)
        → (let x : Editor = elim o [
          | None ↦ e
          | Some l ↦ record e { buffers = slice_set e.buffers id (Some (record l { buffer = f l.buffer })); marks = e.marks }
        ] in x) ≡ (let x : Editor = elim o [
          | None ↦ e
          | Some l ↦ record e { buffers = slice_set e.buffers id (Some (record l { buffer = g l.buffer })); marks = e.marks }
        ] in x)
    go None h = refl
    go (Some l) h = ap (λ (b : Buffer). let x : Editor = record e { buffers = slice_set e.buffers id (Some (record l { buffer = b })); marks = e.marks } in x) h
