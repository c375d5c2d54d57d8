-- Undo, of one buffer: each change of it keeps the text that undoing back to a boundary would give.
use Rattle.std.specs.Prelude.{◌≡◌, ℕ, ◌≤◌, Bool, true, false, List, [], length, None}
use Rattle.text_model.specs.Properties.{Cell, PropEdit}
use Rattle.text_model.specs.Ordered.{AreOrdered, GivesOrdered}
use Rattle.text_model.specs.Undo.{Undo, boundary_at, newer_than, rewind, trial, passed, undone}
use Rattle.text_model.specs.Undo.{with_boundary, started, disabled, enabled}
use Rattle.text_model.specs.Commit.{Buffer, Site, replaced, reset, undone_groups}
use Rattle.machine_laws.specs.Good.{Good}

-- Where a boundary stands before and after, undoing all that is newer gives the same text, with its
-- properties; and the buffer is as every buffer of a run is, so the next change keeps this too.
pub record KeepsBoundaries (b c : Buffer) : Type 0 where
  pub good : Good c
  pub same_text : (serial : ℕ) → boundary_at serial b.undo.entries ≡ true →
      boundary_at serial c.undo.entries ≡ true →
      rewind (newer_than serial c.undo.entries) c.text ≡ rewind (newer_than serial b.undo.entries) b.text

-- a piece put in, or a part taken out
abbrev pub ReplacingKeeps : Type 0
ReplacingKeeps =
    (id from to : ℕ) (piece : List Cell) (all : Bool) (site : Site) → from ≤ to →
    to ≤ length site.buffer.text → AreOrdered piece → Good site.buffer →
    KeepsBoundaries site.buffer (replaced id from to piece all site).buffer

-- properties changed
abbrev pub ResettingKeeps : Type 0
ResettingKeeps =
    (edit : PropEdit) (from to : ℕ) (b : Buffer) → from ≤ to → GivesOrdered edit → Good b →
    KeepsBoundaries b (reset edit from to b)

-- groups of records undone, which their trial found inside the accessible portion
abbrev pub UndoingKeeps : Type 0
UndoingKeeps =
    (id n : ℕ) (site : Site) → Good site.buffer → site.buffer.end ≤ length site.buffer.text →
    trial site.buffer.begin site.buffer.end (undone n site.buffer.undo) ≡ None →
    KeepsBoundaries site.buffer (undone_groups id (passed n site.buffer.undo) site).buffer

abbrev pub with_undo : (Undo → Undo) → Buffer → Buffer
with_undo change b = record b { undo = change b.undo }

-- a boundary pushed: nothing is newer than one that wasn't there before
abbrev pub BoundaryKeeps : Type 0
BoundaryKeeps =
    (b : Buffer) → Good b →
    KeepsBoundaries b (with_undo with_boundary b) ×
    ((serial : ℕ) → boundary_at serial b.undo.entries ≡ false →
    boundary_at serial (with_boundary b.undo).entries ≡ true →
    newer_than serial (with_boundary b.undo).entries ≡ [])

-- undoing begun anew, recording switched off and on
abbrev pub RecordingKeeps : Type 0
RecordingKeeps =
    (b : Buffer) → Good b → KeepsBoundaries b (with_undo started b) ×
    KeepsBoundaries b (with_undo disabled b) × KeepsBoundaries b (with_undo enabled b)
