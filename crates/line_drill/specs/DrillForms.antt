-- What the words and forms of the drill stand for.
use Rattle.std.specs.Prelude.{[], ◌∷◌}
use Rattle.editor_model.specs.Values as model
use Rattle.plain_machine.specs.Drill.{call, p}
use Rattle.line_drill.specs.declared.drill_script.Word.{Word}
use Rattle.line_drill.specs.declared.drill_script.Word.TheVariants as word

abbrev pub word_of : Word → model.Arg
word_of (word.Name s) = model.Name s.0
word_of (word.Quoted s) = model.Const (model.Sym s.0)

abbrev pub wait_form : model.Form
wait_form = model.Do (call model.AcceptProcessOutput (model.Name p ∷ []))
