-- Whether a buffer has a name, and which buffers count as rivals of a new one.
use Rattle.std.specs.Prelude.{Bool, true, false, List, Option, Some, None}
use Rattle.editor_model.specs.Editor.{Editor, Name, Live, same_name, others}

abbrev pub is_named : Option Live → Name → Bool
is_named None name = false
is_named (Some l) name = same_name l.name name

-- all buffers, or those but the current one
abbrev pub rivals : (but_current : Bool) → Editor → List (Option Live)
rivals true e = others e
rivals false e = e.buffers
