use Rattle.std.proofs.Common.{◌≡◌, drop}
use Rattle.text_model.specs.Properties.{put_all}
use Rattle.stickiness.specs.Offers.{offered}
use Rattle.stickiness.proofs.inherit.with_offered.Given as goal

abbrev pub invariant-loop-i : goal.invariant-loop-i
invariant-loop-i l = put_all l.onto (offered l.side l.set (drop l.i l.set)) ≡ put_all l.initial.onto (offered l.side l.set l.set)
