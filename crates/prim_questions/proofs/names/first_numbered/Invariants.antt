use Rattle.std.proofs.Common.{◌≡◌, ◌+◌, ◌-◌, ◌≤◌, length}
use Rattle.editor_model.specs.Editor.{first_numbered}
use Rattle.buffer_table.specs.Kept.{editor_of}
use Rattle.prim_questions.specs.Names.{rivals}
use Rattle.prim_questions.proofs.names.first_numbered.Given as goal

-- the name is the first free one from here on
abbrev pub invariant-loop-n : goal.invariant-loop-n
invariant-loop-n l =
    l.n ≤ length (editor_of l.editor).buffers + 2 → first_numbered (length (editor_of l.editor).buffers + 2 - l.n) l.n (rivals l.but_current (editor_of l.editor)) l.name.items
    ≡ first_numbered (length (editor_of l.editor).buffers) 2 (rivals l.but_current (editor_of l.editor)) l.name.items
