use Rattle.std.proofs.Common.{◌≡◌, ◌<◌, true, false, Some, None, length, map, refl, sym, ap, subst, ◌∙◌, arith}
use Rattle.std.specs.Prelude.{option_map, slice_get, slice_set}
use Rattle.text_model.specs.PropertyQuestions.{first}
use Rattle.editor_model.specs.Editor as shown
use Rattle.editor_model.specs.Editor.{live_from}
use Rattle.buffer_table.specs.Kept.{Kept, live_of, editor_of}
use Rattle.buffer_table.proofs.KeptLemmas.{live_out, some_here}
use Rattle.buffer_table.proofs.Removing.{other_passed, other_met, shown_at, shown_out, shown_some}
use Rattle.buffer_table.proofs.editor.Editor.other_than.Goals as goal
use Rattle.buffer_table.proofs.editor.Editor.other_than.Goals.{else-other-id-via-then-other-id+else-is_some, else-other-id-via-else-other-id}

pub returns-then-is_some-clause-first : goal.returns-then-is_some-clause-first
returns-then-is_some-clause-first c =
    let pool = c.self.inside.pool in
    let items = c.self.inside.buffers.items in
    let within : c.loop-other.other < length items = omega (arith, c.loop-other-test.true, c.len-other-end.ensures, c.self.inside.buffers.ok.0) in
    other_met (slice_set (map (option_map (live_of pool)) items) c.args.id None) c.loop-other.other (option_map (live_of pool) c.index.result.now) _
    (shown_at pool items c.args.id c.loop-other.other c.index.result.now within c.index.ensures c.if-other-id.true)
    (shown_some pool c.index.result.now c.is_some.result c.is_some.ensures ∙ c.if-is_some.true) c.loop-other.invariant
    ∙ ap (λ (k : Kept). first (live_from 0 (slice_set (editor_of k).buffers c.args.id None))) c.self.view_is

pub returns-then-is_some-clause-live : goal.returns-then-is_some-clause-live
returns-then-is_some-clause-live c =
    let kept : Kept = record { buffers = c.self.inside.buffers.items; current = c.self.inside.current; marks = c.self.inside.marks; registers = c.self.inside.registers.items; pool = c.self.inside.pool; lifted = c.self.inside.lifted } in
    let within : c.loop-other.other < length c.self.inside.buffers.items = omega (arith, c.loop-other-test.true, c.len-other-end.ensures, c.self.inside.buffers.ok.0) in
    subst (λ (k : Kept). shown.is_live (editor_of k) c.loop-other.other ≡ true) c.self.view_is
    (live_out kept c.loop-other.other (some_here c.self.inside.buffers.items c.loop-other.other c.index.result.now within c.index.ensures (sym c.is_some.ensures ∙ c.if-is_some.true)))

pub loop-other-preserved : goal.loop-other-preserved
loop-other-preserved c =
    let pool = c.self.inside.pool in
    let items = c.self.inside.buffers.items in
    let within : c.loop-other.other < length items = omega (arith, c.loop-other-test.true, c.len-other-end.ensures, c.self.inside.buffers.ok.0) in
    elim c.else-other-id.branch [
      | else-other-id-via-then-other-id+else-is_some w ↦
          other_passed (slice_set (map (option_map (live_of pool)) items) c.args.id None) c.loop-other.other (option_map (live_of pool) w.index.result.now) _
          (shown_at pool items c.args.id c.loop-other.other w.index.result.now within w.index.ensures w.if-other-id.true)
          (shown_some pool w.index.result.now w.is_some.result w.is_some.ensures ∙ w.if-is_some.false) c.loop-other.invariant
      | else-other-id-via-else-other-id w ↦
          other_passed (slice_set (map (option_map (live_of pool)) items) c.args.id None) c.loop-other.other None _
          (subst (λ i. slice_get (slice_set (map (option_map (live_of pool)) items) i None) c.loop-other.other ≡ Some None) w.if-other-id.false (shown_out pool items c.loop-other.other within)) refl c.loop-other.invariant
    ]
