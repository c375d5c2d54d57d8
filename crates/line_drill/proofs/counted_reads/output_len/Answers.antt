use Rattle.std.proofs.Common.{◌≡◌, ◌≤◌, length, ap, arith}
use Rattle.std.specs.Prelude.{decimal}
use Rattle.std.proofs.lemmas.Fmt.{length-decimal-le}
use Rattle.line_drill.proofs.DrillOutput.{line_longer}
use Rattle.line_drill.proofs.counted_reads.output_len.Goals as goal

pub loop-k-preserved : goal.loop-k-preserved
loop-k-preserved c =
    let number : length c.format.result.now ≡ length (decimal c.loop-k.k) = ap length c.format.ensures.text in
    let short : length (decimal c.loop-k.k) ≤ 10 = length-decimal-le 10 c.loop-k.k (omega arith) (omega arith) (omega arith) in
    record {
      exact = omega (arith, line_longer c.loop-k.k c.args.lines c.loop-k-test.true);
      few = omega arith;
    }
