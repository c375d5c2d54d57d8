use Rattle.std.proofs.Common.{◌≡◌, drop}
use Rattle.text_model.specs.Properties.{put_all}
use Rattle.prim_changes.proofs.inserts.with_all.Given as goal

abbrev pub invariant-loop-i : goal.invariant-loop-i
invariant-loop-i l = put_all l.all (drop l.i l.more) ≡ put_all l.set l.more
