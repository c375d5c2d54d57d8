use Rattle.std.proofs.Common.{◌∙◌, [], ◌∷◌, ap, w64}
use Rattle.std.proofs.lemmas.Int.{to_z-of_z}
use Rattle.narrow_region.specs.Positions.{place_of}
use Rattle.editor_model.specs.Editor.{change_buffer}
use Rattle.editor_model.specs.Arguments.{must_be_position, must_point_somewhere, place}
use Rattle.editor_model.specs.TextCalls.{point_at}
use Rattle.ek_call.specs.Meaning.{view}
use Rattle.buffer_table.specs.Kept.{editor_of}
use Rattle.prim_changes.proofs.Changing.{applies, two_pass}
use Rattle.prim_changes.proofs.texts.goto_char.Goals as goal

pub returns : goal.returns
returns c =
    let e = editor_of c.args.editor.now in
    let p = view c.args.p.now in
    applies e (editor_of c.go_to.new.editor) (change_buffer e.current (point_at (place e p)) e) (must_be_position p ∷ must_point_somewhere e p ∷ []) (view c.in_ok-answer.answer) p
    (two_pass (must_be_position p) (must_point_somewhere e p) c.in_ok-must_be_position.ensures c.in_ok-must_point_somewhere.ensures)
    (c.go_to.ensures ∙ ap (λ i. change_buffer e.current (point_at (place_of i)) e) (to_z-of_z w64 c.in_ok-position.position (let k = rw c.in_ok-position.is at c.branch-position.type_inv in record { sfits = k.1.1.1.1.0.1 })) ∙ ap (λ i. change_buffer e.current (point_at i) e) c.in_ok-position.ensures) c.in_ok-answer.ensures
