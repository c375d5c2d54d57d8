use Rattle.std.proofs.Common.{◌≡◌, ◌+◌, ap, sym, ◌∙◌, arith}
use Rattle.text_model.specs.Marks.{Marks}
use Rattle.text_model.specs.OverlayQuestions.{next_end}
use Rattle.buffer_table.specs.Kept.{editor_of}
use Rattle.prim_questions.proofs.Ends.{first_found, first_behind}
use Rattle.prim_questions.proofs.overlay_questions.first_end.Goals as goal

pub returns-then-is_some : goal.returns-then-is_some
returns-then-is_some c =
    let os = c.behind-editor.inside.overlays in
    let same : os ≡ (editor_of c.args.editor.now).marks.overlays = ap (λ (m : Marks). m.overlays) (c.behind-editor.view_is ∙ c.marks.ensures) in
    first_found c.args.id (c.args.end + 1) os c.prev_change.result c.prev_change.ensures (sym c.is_some.ensures ∙ c.if-is_some.true) (omega arith)
    ∙ ap (next_end c.args.id 0 (c.args.end + 1)) same

pub returns-in-Some : goal.returns-in-Some
returns-in-Some c =
    let os = c.behind-editor.inside.overlays in
    let same : os ≡ (editor_of c.args.editor.now).marks.overlays = ap (λ (m : Marks). m.overlays) (c.behind-editor.view_is ∙ c.marks.ensures) in
    let behind = first_behind c.args.id (c.args.end + 1) os c.prev_change.result c.prev_change.ensures (sym c.is_some.ensures ∙ c.if-is_some.false) in
    let found = c.in-Some.ensures (c.args.end + 1) in
    let here : c.min.result + 1 ≡ next_end c.args.id 0 (c.args.end + 1) os = omega (arith, behind, found, c.min.ensures) in
    here ∙ ap (next_end c.args.id 0 (c.args.end + 1)) same

pub returns-in-None : goal.returns-in-None
returns-in-None c =
    let os = c.behind-editor.inside.overlays in
    let same : os ≡ (editor_of c.args.editor.now).marks.overlays = ap (λ (m : Marks). m.overlays) (c.behind-editor.view_is ∙ c.marks.ensures) in
    let behind = first_behind c.args.id (c.args.end + 1) os c.prev_change.result c.prev_change.ensures (sym c.is_some.ensures ∙ c.if-is_some.false) in
    sym (c.in-None.ensures (c.args.end + 1)) ∙ behind ∙ ap (next_end c.args.id 0 (c.args.end + 1)) same
