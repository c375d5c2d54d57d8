-- What the hook functions of a change are told.
use Rattle.std.specs.Prelude.{List, Option, None, Some}
use Rattle.editor_model.specs.Values.{Value}
use Rattle.prim_changes.specs.declared.change.Change.{Change}
use Rattle.kernel_steps.specs.Changes.{ends_behind, ends_of}
use Rattle.kernel_steps.specs.declared.changes.Made.{Made}

-- the ends of a change, or those behind it once it was made, with the length before it
abbrev pub told_of : Change → Option Made → List Value
told_of change None = ends_of change.from change.to
told_of change (Some made) = ends_behind made.from made.to made.old
