use Rattle.std.proofs.Common.{◌≡◌, map, take}
use Rattle.editor_model.specs.Editor.{buffer_at}
use Rattle.editor_model.specs.UndoCalls.{record_value}
use Rattle.ek_types.specs.Listing.{items_of}
use Rattle.ek_call.specs.Meaning.{view}
use Rattle.buffer_table.specs.Kept.{editor_of}
use Rattle.prim_questions.proofs.undo_records.record_values.Given as goal

abbrev pub invariant-loop-i : goal.invariant-loop-i
invariant-loop-i l = map view (items_of l.values) ≡ map (λ e. record_value e.what) (take l.i (buffer_at (editor_of l.editor) l.id).undo.entries)
