-- The parts of what default handlers put in.
use Rattle.std.specs.Prelude.{ℕ, List, [], Some, None}
use Rattle.text_model.specs.Properties.{Cell}
use Rattle.editor_model.specs.Values.{Nil}
use Rattle.editor_model.specs.Editor.{Name}
use Rattle.editor_model.specs.Answers.{Prepared, Nothing}
use Rattle.editor_model.specs.TextCalls.{prepare_output}
use Rattle.plain_machine.specs.State.{State, process}
use Rattle.plain_machine.specs.Handling.{process_buffer_of, mark_of_process}

-- the name of a process, if it was made
abbrev pub name_at : State → (p : ℕ) → Name
name_at s p = elim (process s p) [ Some x ↦ x.name | None ↦ [] ]

-- the insertion of a text at the mark of a process; nothing without a live buffer
abbrev pub text_prepared : State → (p : ℕ) → List Cell → Prepared
text_prepared s p text = elim (process_buffer_of s p)
    [ None ↦ Nothing Nil | Some b ↦ prepare_output s.editor b (mark_of_process s p) text ]
