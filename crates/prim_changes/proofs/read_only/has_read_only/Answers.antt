use Rattle.std.proofs.Common.{ap, ◌∙◌}
use Rattle.std.specs.Prelude.{is_some}
use Rattle.text_model.specs.Properties.{part}
use Rattle.editor_model.specs.Editor.{here}
use Rattle.buffer_table.specs.Kept.{editor_of}
use Rattle.prim_changes.proofs.Writable.{some_found}
use Rattle.prim_changes.proofs.read_only.has_read_only.Goals as goal

pub returns : goal.returns
returns c = c.is_some.ensures ∙ ap is_some c.first_place.ensures ∙ some_found (part c.args.from c.args.to (here (editor_of c.args.editor.now)).text) c.args.from
