use Rattle.std.proofs.Common.{◌+◌, ◌∙◌, ◌∷◌, ◌++◌, [], ap, arith}
use Rattle.std.specs.Prelude.{if◌then◌else◌}
use Rattle.text_model.specs.OverlayQuestions.{span_passes, lies_within}
use Rattle.editor_model.specs.Editor.{overlay_of}
use Rattle.buffer_table.specs.Kept.{editor_of}
use Rattle.ek_types.specs.Listing.{items_of}
use Rattle.prim_questions.proofs.Ends.{passes_more, passes_all, made_there}
use Rattle.prim_questions.proofs.overlay_questions.standing_in_front.Goals as goal

pub loop-k-preserved : goal.loop-k-preserved
loop-k-preserved c =
    let e = editor_of c.args.editor.now in
    let k = c.loop-k.k in
    let test = lies_within 0 c.args.last (c.args.end + 1) in
    passes_more c.args.id test e.marks.overlays k (overlay_of e k) (items_of c.loop-k.numbers) _ _ (made_there e k (omega arith))
    (c.in_ok-push_if.ensures ∙ ap (λ b. items_of c.loop-k.numbers ++ (if b then k ∷ [] else [])) (c.stands_in_front.ensures ∙ ap (span_passes c.args.id test) c.span.ensures.span)) c.loop-k.invariant

pub returns : goal.returns
returns c =
    let e = editor_of c.args.editor.now in
    passes_all c.args.id (lies_within 0 c.args.last (c.args.end + 1)) e.marks.overlays c.loop-k.k (items_of c.loop-k.numbers) _ (omega arith) c.loop-k.invariant
