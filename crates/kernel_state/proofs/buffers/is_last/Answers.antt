use Rattle.std.proofs.Common.{◌≡◌, ◌∙◌, false, length, sym, below_more, arith}
use Rattle.std.proofs.lemmas.List.{length-map}
use Rattle.editor_model.specs.Editor.{is_live}
use Rattle.buffer_table.specs.Kept.{editor_of}
use Rattle.kernel_state.proofs.LastBuffers.{not_last, last_if_live}
use Rattle.kernel_state.proofs.buffers.is_last.Goals.{else-other-buffer-via-then-other-buffer+else-is_live, else-other-buffer-via-else-other-buffer}
use Rattle.kernel_state.proofs.buffers.is_last.Goals as goal

pub returns-then-is_live : goal.returns-then-is_live
returns-then-is_live c = not_last (editor_of c.args.editor.now) c.args.buffer c.loop-other.other (sym c.is_live.ensures.live ∙ c.if-is_live.true) c.if-other-buffer.true

pub loop-other-preserved : goal.loop-other-preserved
loop-other-preserved c =
    let e = editor_of c.args.editor.now in
    below_more (λ k. (k ≡ c.args.buffer → ⊥) → is_live e k ≡ false) c.loop-other.other c.loop-other.invariant
    (λ differs.
    let dead : is_live e c.loop-other.other ≡ false = elim c.else-other-buffer.branch [
      | else-other-buffer-via-then-other-buffer+else-is_live w ↦ sym w.is_live.ensures.live ∙ w.if-is_live.false
      | else-other-buffer-via-else-other-buffer w ↦ absurd (differs w.if-other-buffer.false)
    ] in
    dead)

pub returns : goal.returns
returns c =
    let e = editor_of c.args.editor.now in
    let size : length e.buffers ≡ length c.args.editor.now.buffers = grind (arith, length-map) in
    c.is_live-2.ensures.live ∙ last_if_live e c.args.buffer (λ j within differs. c.loop-other.invariant j (omega (arith, size)) differs)
