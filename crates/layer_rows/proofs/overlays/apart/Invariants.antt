use Rattle.std.proofs.Common.{◌≡◌, All, length}
use Rattle.layer_rows.specs.Upto.{EndsUpto}
use Rattle.layer_rows.proofs.overlays.apart.Given as goal

abbrev pub invariant-loop-k : goal.invariant-loop-k
invariant-loop-k l = record { made : length l.overlays ≡ l.k; upto : All (EndsUpto l.count) l.overlays }
