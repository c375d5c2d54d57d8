use Rattle.std.proofs.Common.{◌≡◌, ◌++◌, map, drop}
use Rattle.editor_model.specs.Values.{set_words}
use Rattle.ek_types.specs.Listing.{items_of}
use Rattle.ek_call.specs.Meaning.{view}
use Rattle.prim_arguments.proofs.values.set_words.Given as goal

abbrev pub invariant-loop-i : goal.invariant-loop-i
invariant-loop-i l = map view (items_of l.values) ++ set_words (drop l.i l.set) ≡ set_words l.set
