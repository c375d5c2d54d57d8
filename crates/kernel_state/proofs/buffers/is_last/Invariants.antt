use Rattle.std.proofs.Common.{◌≡◌, ℕ, ◌<◌, false}
use Rattle.editor_model.specs.Editor.{is_live}
use Rattle.buffer_table.specs.Kept.{editor_of}
use Rattle.kernel_state.proofs.buffers.is_last.Given as goal

abbrev pub invariant-loop-other : goal.invariant-loop-other
invariant-loop-other l = (k : ℕ) → k < l.other → (k ≡ l.buffer → ⊥) → is_live (editor_of l.editor) k ≡ false
