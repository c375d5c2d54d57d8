use Rattle.std.proofs.Common.{◌≡◌, ◌+◌, ◌<◌, ◌∙◌, [], ◌∷◌, ◌++◌, length, map, drop, sym, ap, arith}
use Rattle.std.proofs.lemmas.List.{length-map, map-append}
use Rattle.editor_model.specs.Values.{TheBuffer}
use Rattle.editor_model.specs.Editor.{live_from}
use Rattle.ek_types.specs.Listing.{items_of}
use Rattle.ek_call.specs.Meaning.{view}
use Rattle.buffer_table.specs.Kept.{editor_of}
use Rattle.prim_questions.proofs.Finding.{live_met, live_passed, live_ended}
use Rattle.prim_questions.proofs.buffers.all_live.Goals.{then-is_live+in_ok-push, else-is_live}
use Rattle.prim_questions.proofs.buffers.all_live.Goals as goal

pub loop-id-preserved : goal.loop-id-preserved
loop-id-preserved c =
    let e = c.args.editor.now in
    let bs = (editor_of e).buffers in
    let id = c.loop-id.id in
    let before = items_of c.loop-id.values in
    let size : length bs ≡ length e.buffers = grind (arith, length-map) in
    let within : id < length bs = omega (arith, size, c.loop-id-test.true, c.count-id-end.ensures.number) in
    elim c.if-is_live.branch [
      | then-is_live+in_ok-push w ↦
          ap (λ front. front ++ map TheBuffer (live_from (id + 1) (drop (id + 1) bs)))
          (ap (λ vs. map view (items_of vs)) w.values-is ∙ ap (map view) w.in_ok-push.ensures.ok ∙ map-append view before (w.buffer.result ∷ []) ∙ ap (λ v. map view before ++ v ∷ []) w.buffer.ensures)
          ∙ live_met bs id (map view before) (map TheBuffer (live_from 0 bs)) within (sym c.is_live.ensures.live ∙ w.if-is_live.true) c.loop-id.invariant
      | else-is_live w ↦
          ap (λ vs. map view (items_of vs) ++ map TheBuffer (live_from (id + 1) (drop (id + 1) bs))) w.values-is
          ∙ live_passed bs id (map view before) (map TheBuffer (live_from 0 bs)) within (sym c.is_live.ensures.live ∙ w.if-is_live.false) c.loop-id.invariant
    ]

pub returns : goal.returns
returns c =
    let e = c.args.editor.now in
    let bs = (editor_of e).buffers in
    let size : length bs ≡ length e.buffers = grind (arith, length-map) in
    live_ended bs c.loop-id.id (map view (items_of c.loop-id.values)) (map TheBuffer (live_from 0 bs)) (grind (arith, size)) c.loop-id.invariant
