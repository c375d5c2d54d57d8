use Rattle.std.proofs.Common.{◌∙◌, ap, w64}
use Rattle.std.proofs.lemmas.Int.{to_z-of_z}
use Rattle.editor_model.specs.Editor.{change_buffer}
use Rattle.editor_model.specs.TextCalls.{point_at}
use Rattle.narrow_region.specs.Positions.{place_of}
use Rattle.buffer_table.specs.Kept.{editor_of}
use Rattle.prim_changes.proofs.texts.go_to.Goals as goal

pub returns : goal.returns
returns c =
    c.goto.ensures
    ∙ ap (λ i. change_buffer c.current-id.result (point_at (place_of i)) (editor_of c.args.editor.now)) (to_z-of_z w64 c.args.position c.ranges.position)
    ∙ ap (λ id. change_buffer id (point_at (place_of c.args.position)) (editor_of c.args.editor.now)) c.current-id.ensures.number
