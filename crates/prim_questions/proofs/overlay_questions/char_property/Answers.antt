use Rattle.std.proofs.Common.{◌≡◌, ℕ, ◌+◌, ap, subst, ◌∙◌}
use Rattle.std.specs.Prelude.{IfOk}
use Rattle.text_model.specs.OverlayQuestions.{winner}
use Rattle.editor_model.specs.Values.{of_prop}
use Rattle.editor_model.specs.Editor.{here}
use Rattle.editor_model.specs.PropertyCalls.{set_at}
use Rattle.editor_model.specs.OverlayCalls.{char_property}
use Rattle.ek_types.specs.Property.{number_of}
use Rattle.ek_call.specs.Meaning.{view}
use Rattle.buffer_table.specs.Kept.{editor_of}
use Rattle.prim_questions.proofs.Standing.{won, not_won}
use Rattle.prim_questions.proofs.overlay_questions.char_property.Goals as goal

pub returns-in-Some : goal.returns-in-Some
returns-in-Some c =
    let e = editor_of c.args.editor.now in
    let name = number_of c.args.name in
    let set = set_at (here e) c.args.place in
    let same = c.overlay_value.ensures ∙ won e c.current-id.result (c.args.place + 1) name c.in-Some.k set c.in-Some.ensures
    ∙ ap (λ (i : ℕ). char_property (winner i (c.args.place + 1) name e.marks.overlays) name set) c.current-id.ensures.number in
    subst (λ w. IfOk c.of_prop.result (λ v. view v ≡ of_prop w)) same c.of_prop.ensures

pub returns-in-None : goal.returns-in-None
returns-in-None c =
    let e = editor_of c.args.editor.now in
    let name = number_of c.args.name in
    let set = set_at (here e) c.args.place in
    let same = not_won e c.current-id.result (c.args.place + 1) name set c.in-None.ensures
    ∙ ap (λ (i : ℕ). char_property (winner i (c.args.place + 1) name e.marks.overlays) name set) c.current-id.ensures.number in
    subst (λ w. IfOk c.text_property.result (λ v. view v ≡ of_prop w)) same c.text_property.ensures
