use Rattle.std.proofs.Common.{◌≡◌, drop}
use Rattle.editor_model.specs.Editor.{find_from}
use Rattle.buffer_table.specs.Kept.{editor_of}
use Rattle.prim_questions.specs.Names.{rivals}
use Rattle.prim_questions.proofs.names.is_taken.Given as goal

abbrev pub invariant-loop-id : goal.invariant-loop-id
invariant-loop-id l = find_from l.id (drop l.id (rivals l.but_current (editor_of l.editor))) l.name.items ≡ find_from 0 (rivals l.but_current (editor_of l.editor)) l.name.items
