-- What prepared changes of the code stand for, and what preparing and committing come to.
use Rattle.std.specs.Prelude.{◌≡◌, List, Result, Ok, Err}
use Rattle.text_model.specs.Properties.{Cell}
use Rattle.editor_model.specs.Answers as answers
use Rattle.editor_model.specs.Editor.{Editor}
use Rattle.ek_call.specs.Meaning.{view}
use Rattle.ek_call.specs.Faults.{fault_of}
use Rattle.prop_intervals.specs.Edits.{edit_of}
use Rattle.prop_intervals.specs.Sets.{together}
use Rattle.prim_arguments.specs.declared.failure.Failure.{Failure}
use Rattle.prim_arguments.specs.declared.failure.Failure.TheVariants as failure
use Rattle.prim_changes.specs.declared.change.Pieces.{Pieces}
use Rattle.prim_changes.specs.declared.change.Pieces.TheVariants as pieces
use Rattle.prim_changes.specs.declared.change.What.{What}
use Rattle.prim_changes.specs.declared.change.What.TheVariants as what
use Rattle.prim_changes.specs.declared.change.Change.{Change}
use Rattle.prim_changes.specs.declared.change.Prepared.{Prepared}
use Rattle.prim_changes.specs.declared.change.Prepared.TheVariants as prepared
use Rattle.prim_changes.specs.declared.change.Committed.{Committed}
use Rattle.prim_changes.specs.declared.change.Committed.TheVariants as committed

-- CHANGES
-- the pieces one behind the other
abbrev pub text_of : Pieces → List Cell
text_of (pieces.One piece) = piece
text_of (pieces.Several list) = together list.items

abbrev pub what_of : What → answers.What
what_of (what.Put put all point_after widen mark) = answers.Put (text_of put) all point_after widen mark
what_of (what.Props edit) = answers.Props (edit_of edit)
what_of (what.UndoGroups n) = answers.UndoGroups n

abbrev pub change_of : Change → answers.Change
change_of c =
    record { buffer = c.buffer; from = c.from; to = c.to; what = what_of c.what; reply = view c.reply }

abbrev pub prepared_of : Prepared → answers.Prepared
prepared_of (prepared.Change c) = answers.Changes (change_of c)
prepared_of (prepared.Quiet c) = answers.Quiet (change_of c)
prepared_of (prepared.Nothing v) = answers.Nothing (view v)
prepared_of (prepared.Fault f) = answers.Barred (fault_of f)

abbrev pub committed_of : Committed → answers.Committed
committed_of (committed.Done from to old) = answers.Done from to old
committed_of (committed.Fault f) = answers.Failed (fault_of f)

-- what a call that changes a text comes to before anything is changed
abbrev pub Prepares : Result Prepared Failure → answers.Prepared → Type 0
Prepares (Ok p) call = prepared_of p ≡ call
Prepares (Err (failure.Refused f)) call = answers.Barred (fault_of f) ≡ call
Prepares (Err failure.NoMemory) call = Unit {0}

-- what a commit comes to; want of memory leaves the editor as it was
abbrev pub Commits : Result Committed Failure → (old new : Editor) → answers.Commit → Type 0
Commits (Ok c) old new call = record { editor = new; committed = committed_of c } ≡ call
Commits (Err (failure.Refused f)) old new call =
    record { editor = new; committed = answers.Failed (fault_of f) } ≡ call
Commits (Err failure.NoMemory) old new call = new ≡ old

-- a commit that was refused
abbrev pub IsFailed : answers.Committed → Type 0
IsFailed (answers.Failed f) = Unit {0}
IsFailed (answers.Done from to old) = ⊥
