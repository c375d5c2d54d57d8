use Rattle.std.proofs.Common.{ℕ, ap, ◌∙◌, arith, map}
use Rattle.editor_model.specs.Editor.{buffer_at}
use Rattle.editor_model.specs.UndoCalls.{record_value}
use Rattle.ek_types.specs.Listing.{items_of}
use Rattle.ek_call.specs.Meaning.{view}
use Rattle.buffer_table.specs.Kept.{editor_of}
use Rattle.prim_arguments.proofs.Loops.{seen_more, mapped_all}
use Rattle.prim_questions.proofs.undo_records.record_values.Goals as goal

pub loop-i-preserved : goal.loop-i-preserved
loop-i-preserved c =
    seen_more view (λ e. record_value e.what) (buffer_at (editor_of c.args.editor.now) c.current-id.result).undo.entries _ _ c.loop-i.i _ _ c.in_ok-push.ensures.ok c.undo_at.ensures c.in_ok-record_value.ensures c.loop-i.invariant

pub returns : goal.returns
returns c =
    let e = editor_of c.args.editor.now in
    mapped_all (λ e. record_value e.what) (buffer_at e c.current-id.result).undo.entries (map view (items_of c.loop-i.values)) c.loop-i.i (omega arith) c.loop-i.invariant
    ∙ ap (λ (i : ℕ). map (λ e. record_value e.what) (buffer_at e i).undo.entries) c.current-id.ensures.number
