use Rattle.std.proofs.Common.{◌≡◌, ◌≤◌, length, drop, None}
use Rattle.text_model.specs.Undo.{trial}
use Rattle.text_model.specs.Commit.{undo_each}
use Rattle.gap_text.specs.Text.{LiesIn}
use Rattle.buffer_core.specs.Blocks.{ChangesBlocks}
use Rattle.buffer_core.specs.Meaning.{site_of}
use Rattle.buffer_core.specs.Standing.{AreWithin}
use Rattle.buffer_core.proofs.KeptMargins.{StillThere}
use Rattle.buffer_core.proofs.UndoLemmas.{StaysBefore}
use Rattle.buffer_core.proofs.buffer.Buffer.undo_each.Given as goal

abbrev pub invariant-loop-i : goal.invariant-loop-i
invariant-loop-i l =
    LiesIn l.pool l.self.text × AreWithin l.id (length l.self.sets) l.marks × ChangesBlocks l.initial.self.text.blocks l.self.text.blocks l.initial.pool l.pool
    × (trial l.self.begin l.self.end (drop l.i l.records.state.entries) ≡ None)
    × (undo_each l.id (drop l.i l.records.state.entries) (site_of l.pool l.self l.marks) ≡ undo_each l.id l.records.state.entries (site_of l.initial.pool l.initial.self l.initial.marks))
    × StaysBefore l.records.state.entries l.i (site_of l.initial.pool l.initial.self l.initial.marks) (site_of l.pool l.self l.marks)
    × (length l.initial.self.text.blocks ≤ length l.self.text.blocks)
    × StillThere l.records.state.entries l.i (site_of l.initial.pool l.initial.self l.initial.marks) (site_of l.pool l.self l.marks)
