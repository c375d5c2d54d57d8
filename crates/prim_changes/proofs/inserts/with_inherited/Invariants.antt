use Rattle.std.proofs.Common.{◌≡◌, ◌-◌, ◌++◌, length, map, take, drop}
use Rattle.text_model.specs.Properties.{put_all}
use Rattle.prim_changes.proofs.inserts.with_inherited.Given as goal

abbrev pub invariant-runs : goal.invariant-runs
invariant-runs l = record {
  done : l.piece ≡ map (λ c. (c.0, put_all l.set c.1)) (take l.i l.fn.piece) ++ drop l.i l.fn.piece;
  size : length l.piece ≡ length l.fn.piece;
}

abbrev pub decreases-runs : goal.decreases-runs
decreases-runs l = length l.piece - l.i
