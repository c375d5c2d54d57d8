use Rattle.std.proofs.Common.{◌≡◌, ◌≤◌, ◌*◌, take}
use Rattle.editor_model.specs.Editor.{characters_in}
use Rattle.buffer_table.specs.Kept.{editor_of}
use Rattle.buffer_table.proofs.editor.Editor.characters.Given as goal

abbrev pub invariant-loop-id : goal.invariant-loop-id
invariant-loop-id l = (l.total ≡ characters_in (take l.id (editor_of l.self).buffers)) × (l.total ≤ l.id * 0xffff_ffff_ffff_ffff)
