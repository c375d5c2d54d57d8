use Rattle.std.proofs.Common.{◌≡◌, ap, subst, ◌∙◌, map}
use Rattle.std.specs.Prelude.{IfOk}
use Rattle.text_model.specs.OverlayQuestions.{overlays_where, lies_within}
use Rattle.editor_model.specs.Values.{TheOverlay, list}
use Rattle.editor_model.specs.OverlayCalls.{first_position, last_position, end_position}
use Rattle.ek_call.specs.Meaning.{view}
use Rattle.buffer_table.specs.Kept.{editor_of}
use Rattle.prim_questions.proofs.Standing.{as_values}
use Rattle.prim_questions.proofs.overlay_questions.standing_list.Goals as goal

pub returns : goal.returns
returns c =
    let e = editor_of c.args.editor.now in
    let a = view c.args.a.now in
    let b = view c.args.b.now in
    let same = ap (λ l. list (map TheOverlay l)) c.in_ok-standing.ensures
    ∙ as_values (overlays_where e.current (lies_within (first_position e a b) (last_position e a b) (end_position e)) e.marks.overlays) in
    subst (λ w. IfOk c.overlay_list.result (λ v. view v ≡ w)) same c.overlay_list.ensures
