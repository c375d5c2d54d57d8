use Rattle.std.proofs.Common.{◌≡◌, ◌++◌, map, drop}
use Rattle.editor_model.specs.TextCalls.{joined, with_inherited}
use Rattle.ek_types.specs.Listing.{items_of}
use Rattle.ek_call.specs.Meaning.{view}
use Rattle.prop_intervals.specs.Sets.{together}
use Rattle.prim_changes.proofs.inserts.all_contents.Given as goal

abbrev pub invariant-loop-i : goal.invariant-loop-i
invariant-loop-i l =
    together l.pieces.items ++ with_inherited l.set (joined (drop l.i (map view (items_of l.args)))) ≡ with_inherited l.set (joined (map view (items_of l.args)))
