-- What the forms of the script stand for.
use Rattle.std.specs.Prelude.{ℕ, [], ◌∷◌}
use Rattle.editor_model.specs.Values as model
use Rattle.plain_machine.specs.Drill.{call}
use Rattle.line_session.specs.Script.{p}

-- a call that gives process p a handler
abbrev pub handler_form : model.Prim → (name : ℕ) → model.Form
handler_form prim name = model.Do (call prim (model.Name p ∷ model.Const (model.Sym name) ∷ []))
