-- What is undone, or why it is refused.
use Rattle.std.specs.Prelude.{◌≡◌, ℕ, Some, None, length, Result, Ok, Err}
use Rattle.text_model.specs.Undo.{undone}
use Rattle.text_model.specs.Commit.{Buffer}
use Rattle.editor_model.specs.Answers.{first_fault}
use Rattle.editor_model.specs.UndoCalls.{undo_tests}
use Rattle.ek_call.specs.Faults.{fault_of}
use Rattle.undo_list.specs.declared.plan.Plan.{Plan}
use Rattle.undo_list.specs.Plans.{planned}
use Rattle.prim_arguments.specs.declared.failure.Failure.{Failure}
use Rattle.prim_arguments.specs.declared.failure.Failure.TheVariants as failure

-- the plan of some groups of a buffer's records, with the tests that undoing meets; want of memory says nothing
abbrev pub Planned : Result Plan Failure → (groups : ℕ) → Buffer → Type 0
Planned (Ok plan) n b = (planned n b.begin b.end b.undo ≡ Ok plan) ×
    (first_fault (undo_tests b n) ≡ None) × (plan.count ≡ length (undone n b.undo))
Planned (Err (failure.Refused f)) n b = first_fault (undo_tests b n) ≡ Some (fault_of f)
Planned (Err failure.NoMemory) n b = Unit {0}
