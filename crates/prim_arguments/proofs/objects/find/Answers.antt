use Rattle.std.proofs.Common.{ap, ◌∙◌}
use Rattle.editor_model.specs.Editor.{find}
use Rattle.buffer_table.specs.Kept.{editor_of}
use Rattle.prim_arguments.proofs.Found.{found_lives}
use Rattle.prim_arguments.proofs.objects.find.Goals as goal

pub returns-clause-found : goal.returns-clause-found
returns-clause-found c = c.find.ensures ∙ ap (find (editor_of c.args.editor.now)) c.text.ensures

pub returns-clause-live : goal.returns-clause-live
returns-clause-live c = found_lives (editor_of c.args.editor.now) c.text.result.now.items c.find.result c.find.ensures
