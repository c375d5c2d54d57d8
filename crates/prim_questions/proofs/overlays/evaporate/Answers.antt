use Rattle.std.proofs.Common.{sym, ◌∙◌}
use Rattle.buffer_table.specs.Kept.{editor_of}
use Rattle.prim_questions.proofs.Evaporating.{stays}
use Rattle.prim_questions.proofs.overlays.evaporate.Goals as goal

pub returns-else-vanishes : goal.returns-else-vanishes
returns-else-vanishes c = stays (editor_of c.args.editor.now) c.args.k (sym c.vanishes.ensures ∙ c.if-vanishes.false)
