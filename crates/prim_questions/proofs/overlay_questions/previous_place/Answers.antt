use Rattle.std.proofs.Common.{◌≡◌, ℕ, ◌+◌, ap, sym, ◌∙◌}
use Rattle.std.proofs.lemmas.Bool.{eqb-true}
use Rattle.editor_model.specs.Editor.{here, buffer_at}
use Rattle.editor_model.specs.Arguments.{position}
use Rattle.ek_call.specs.Meaning.{view}
use Rattle.buffer_table.specs.Kept.{editor_of}
use Rattle.prim_questions.proofs.Ends.{nothing_before}
use Rattle.prim_questions.proofs.overlay_questions.previous_place.Goals as goal

pub returns-then-is_before_text : goal.returns-then-is_before_text
returns-then-is_before_text c =
    let e = editor_of c.args.editor.now in
    let p = position e (view c.args.p.now) in
    let none : p ≡ 0 = eqb-true p 0 (sym c.is_before_text.ensures ∙ c.if-is_before_text.true) in
    let start : c.bounds-start.result.start ≡ (here e).begin = c.bounds-start.ensures.start ∙ ap (λ (i : ℕ). (buffer_at e i).begin) c.current-id.ensures.number in
    ap (λ n. n + 1) start ∙ nothing_before e.current ((here e).begin + 1) p e.marks.overlays none
