use Rattle.std.proofs.Common.{◌≡◌, ℕ, ◌+◌, ap, sym, subst, ◌∙◌}
use Rattle.std.specs.Prelude.{IfOk}
use Rattle.std.proofs.lemmas.Bool.{eqb-true}
use Rattle.text_model.specs.OverlayQuestions.{overlays_where, covers}
use Rattle.editor_model.specs.Arguments.{position}
use Rattle.ek_types.specs.Listing.{items_of}
use Rattle.ek_call.specs.Meaning.{view}
use Rattle.overlay_set.specs.Numbered.{numbers_of}
use Rattle.buffer_table.specs.Kept.{editor_of}
use Rattle.prim_questions.proofs.Standing.{none_covers, place_next}
use Rattle.prim_questions.proofs.overlay_questions.covering.Goals as goal

pub returns-then-is_before_text : goal.returns-then-is_before_text
returns-then-is_before_text c =
    let e = editor_of c.args.editor.now in
    let p = position e (view c.args.p.now) in
    let none : p ≡ 0 = eqb-true p 0 (sym c.is_before_text.ensures ∙ c.if-is_before_text.true) in
    c.new-none.ensures ∙ sym (ap (λ (n : ℕ). numbers_of (overlays_where e.current (covers n) e.marks.overlays)) none ∙ ap numbers_of (none_covers e.current e.marks.overlays))

pub returns : goal.returns
returns c =
    let e = editor_of c.args.editor.now in
    let p = position e (view c.args.p.now) in
    let next : c.place.result + 1 ≡ p = ap (λ (n : ℕ). n + 1) c.place.ensures ∙ place_next p (sym c.is_before_text.ensures ∙ c.if-is_before_text.false) in
    let same = ap (λ (i : ℕ). numbers_of (overlays_where i (covers (c.place.result + 1)) e.marks.overlays)) c.current-id.ensures.number
    ∙ ap (λ (n : ℕ). numbers_of (overlays_where e.current (covers n) e.marks.overlays)) next in
    subst (λ w. IfOk c.covering_place.result (λ numbers. items_of numbers ≡ w)) same c.covering_place.ensures
