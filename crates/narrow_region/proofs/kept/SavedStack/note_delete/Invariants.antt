use Rattle.std.proofs.Common.{◌≡◌, map}
use Rattle.text_model.specs.Marks.{move_saved, deletion}
use Rattle.ek_types.proofs.InTurn.{first_moved}
use Rattle.narrow_region.specs.Kept.{kept_of}
use Rattle.narrow_region.proofs.kept.SavedStack.note_delete.Given as goal

abbrev pub invariant-loop-item : goal.invariant-loop-item
invariant-loop-item l = map kept_of l.item-items ≡ first_moved (move_saved l.buffer (deletion l.from l.to)) l.item-index (map kept_of l.initial.item-items)
