use Rattle.std.proofs.Common.{◌≡◌, ◌++◌, map, drop}
use Rattle.editor_model.specs.Values.{TheBuffer}
use Rattle.editor_model.specs.Editor.{live_from}
use Rattle.ek_types.specs.Listing.{items_of}
use Rattle.ek_call.specs.Meaning.{view}
use Rattle.buffer_table.specs.Kept.{editor_of}
use Rattle.prim_questions.proofs.buffers.all_live.Given as goal

abbrev pub invariant-loop-id : goal.invariant-loop-id
invariant-loop-id l =
    map view (items_of l.values) ++ map TheBuffer (live_from l.id (drop l.id (editor_of l.editor).buffers)) ≡ map TheBuffer (live_from 0 (editor_of l.editor).buffers)
