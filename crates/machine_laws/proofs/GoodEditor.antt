-- What holds of the editor, and of what a step does to it.
use Rattle.std.specs.Prelude.{◌≡◌, ℕ, ◌≤◌, ◌<◌, true, [], length, Some, None}
use Rattle.text_model.specs.Ordered.{AreOrdered, GivesOrdered}
use Rattle.text_model.specs.Undo.{boundary_at, newer_than, rewind}
use Rattle.text_model.specs.Commit.{Buffer}
use Rattle.editor_model.specs.Editor.{Editor, Live, live, buffer_at}
use Rattle.editor_model.specs.Answers.{What, Put, Props, UndoGroups, Change}
use Rattle.machine_laws.specs.Good.{Good}
use Rattle.machine_laws.specs.Fits.{MarksFit, GoodSite}
use Rattle.machine_laws.specs.Brackets.{shapes}

-- What a step does to a buffer: it stays good; where a boundary stood before and stands still, what is newer rewinds to
-- the same text as before; and nothing is newer than a boundary that was pushed.
pub record Passes (b c : Buffer) : Type 0 where
  pub good : Good c
  pub grows : b.undo.next ≤ c.undo.next
  pub stood : (serial : ℕ) → serial < b.undo.next → boundary_at serial c.undo.entries ≡ true → boundary_at serial b.undo.entries ≡ true
  pub back : (serial : ℕ) → serial < b.undo.next → boundary_at serial c.undo.entries ≡ true → rewind (newer_than serial c.undo.entries) c.text ≡ rewind (newer_than serial b.undo.entries) b.text
  pub pushed : (serial : ℕ) → b.undo.next ≤ serial → boundary_at serial c.undo.entries ≡ true → newer_than serial c.undo.entries ≡ []

-- Each live buffer is good, all places lie in its text, and point in the accessible portion. In a buffer that isn't made
-- yet no place lies behind 0.
pub record GoodEditor (e : Editor) : Type 0 where
  pub each : (id : ℕ) (l : Live) → live e id ≡ Some l → GoodSite id (record { buffer = l.buffer; marks = e.marks })
  pub unborn : (id : ℕ) → length e.buffers ≤ id → MarksFit id 0 e.marks

-- a step keeps what is newer than a boundary in each buffer, and no buffer comes to life again
pub record Advances (e new : Editor) : Type 0 where
  pub good : GoodEditor new
  pub longer : length e.buffers ≤ length new.buffers
  pub dead : (id : ℕ) → id < length e.buffers → live e id ≡ None → live new id ≡ None
  pub passes : (id : ℕ) (l m : Live) → live e id ≡ Some l → live new id ≡ Some m → Passes l.buffer m.buffer

-- besides, the kept places are of the same kinds
pub record Steady (e new : Editor) : Type 0 where
  pub advances : Advances e new
  pub same_shapes : shapes new.marks.saved ≡ shapes e.marks.saved

-- a change gives sets in order
abbrev pub FineWhat : What → Type 0
FineWhat (Put piece all point_after widen mark) = AreOrdered piece
FineWhat (Props edit) = GivesOrdered edit
FineWhat (UndoGroups n) = Unit {0}

-- and its ends lie in the text
pub record FineChange (e : Editor) (c : Change) : Type 0 where
  pub what : FineWhat c.what
  pub order : c.from ≤ c.to
  pub fits : c.to ≤ length (buffer_at e c.buffer).text
