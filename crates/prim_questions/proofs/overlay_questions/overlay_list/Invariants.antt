use Rattle.std.proofs.Common.{◌≡◌, map, take}
use Rattle.editor_model.specs.Values.{TheOverlay}
use Rattle.ek_types.specs.Listing.{items_of}
use Rattle.ek_call.specs.Meaning.{view}
use Rattle.prim_questions.proofs.overlay_questions.overlay_list.Given as goal

abbrev pub invariant-loop-i : goal.invariant-loop-i
invariant-loop-i l = map view (items_of l.values) ≡ map TheOverlay (take l.i (items_of l.numbers))
