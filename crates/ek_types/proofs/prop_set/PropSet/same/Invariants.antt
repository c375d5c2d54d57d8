use Rattle.std.proofs.Common.{◌≡◌, length, drop}
use Rattle.text_model.specs.Properties.{same_set}
use Rattle.ek_types.proofs.prop_set.PropSet.same.Given as goal

abbrev pub invariant-loop-i : goal.invariant-loop-i
invariant-loop-i l = (same_set (drop l.i l.self) (drop l.i l.other) ≡ same_set l.self l.other) × (length l.self ≡ length l.other)
