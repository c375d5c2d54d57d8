use Rattle.std.proofs.Common.{◌≡◌, min, ◌∙◌, arith}
use Rattle.std.proofs.lemmas.Nat.{mod_below}
use Rattle.line_drill.proofs.DrillOutput.{lesser_is, piece_fewer}
use Rattle.line_drill.proofs.counted_reads.piece_count.Goals as goal

pub loop-left-preserved : goal.loop-left-preserved
loop-left-preserved c =
    let lesser : c.min-left.result ≡ min c.loop-left.size c.loop-left.left = c.min-left.ensures ∙ lesser_is c.loop-left.size c.loop-left.left in
    record {
      exact = λ output long. omega (
        arith,
        c.loop-left.invariant.exact output long,
        piece_fewer c.loop-left.size c.min-left.result c.loop-left.left c.args.bytes output c.loop-left.invariant.some (omega arith) (omega arith) long lesser,
      );
      few = omega arith;
      some = omega arith;
      small = omega (arith, mod_below c.loop-left.size 7 (omega arith));
    }
