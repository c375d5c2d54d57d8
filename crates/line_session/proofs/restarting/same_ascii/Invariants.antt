use Rattle.std.proofs.Common.{◌≡◌, length, drop, map}
use Rattle.text_model.specs.Characters.{Scalar}
use Rattle.text_model.specs.Properties.{same_list, same_ch}
use Rattle.line_session.proofs.restarting.same_ascii.Given as goal

abbrev pub invariant-loop-i : goal.invariant-loop-i
invariant-loop-i l =
    (same_list same_ch (drop l.i l.text.items) (drop l.i (map Scalar l.bytes)) ≡ same_list same_ch l.text.items (map Scalar l.bytes)) × (length l.text.items ≡ length l.bytes)
