-- What tests and answers of the code stand for.
use Rattle.std.specs.Prelude.{◌≡◌, Option, Some, None, Result, Ok, Err}
use Rattle.editor_model.specs.Values as model
use Rattle.editor_model.specs.Answers as answers
use Rattle.editor_model.specs.Editor.{Editor}
use Rattle.ek_call.specs.Meaning.{view}
use Rattle.ek_call.specs.Faults.{fault_of}
use Rattle.ek_call.specs.declared.value.Value.{Value}
use Rattle.ek_call.specs.declared.fault.Fault.{Fault}
use Rattle.prim_arguments.specs.declared.failure.Failure.{Failure}
use Rattle.prim_arguments.specs.declared.failure.Failure.TheVariants as failure

-- TESTS
-- the fault with which a test refuses, if it does
abbrev pub fault_in : {T : Type 0} → Result T Fault → Option model.Fault
fault_in (Ok x) = None
fault_in (Err f) = Some (fault_of f)

-- CALLS
-- what a call that only asks comes to; want of memory says nothing
abbrev pub Answers : Result Value Failure → model.Reply → Type 0
Answers (Ok v) reply = model.Answered (view v) ≡ reply
Answers (Err (failure.Refused f)) reply = model.Refused (fault_of f) ≡ reply
Answers (Err failure.NoMemory) reply = Unit {0}

-- what a call that sets state comes to; want of memory leaves the editor as it was
abbrev pub Applies : Result Value Failure → (old new : Editor) → answers.Applied → Type 0
Applies (Ok v) old new call = record { editor = new; reply = model.Answered (view v) } ≡ call
Applies (Err (failure.Refused f)) old new call =
    record { editor = new; reply = model.Refused (fault_of f) } ≡ call
Applies (Err failure.NoMemory) old new call = new ≡ old
