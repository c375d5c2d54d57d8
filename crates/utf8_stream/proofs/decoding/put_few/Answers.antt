use Rattle.std.proofs.Common.{◌-◌, ◌<◌, length, take, drop, slice_index, arith}
use Rattle.std.proofs.lemmas.Bool.Decides.{nat_tests}
use Rattle.text_model.specs.Characters.{Scalar, Raw}
use Rattle.utf8_stream.proofs.Steps.{cut_length, whole_first, whole_rest}
use Rattle.utf8_stream.proofs.Blocks.{neither_first, neither_rest, then_one}
use Rattle.utf8_stream.proofs.decoding.put_few.Goals.{in-Whole, in-Neither}
use Rattle.utf8_stream.proofs.decoding.put_few.Goals as goal

pub loop-n-preserved : goal.loop-n-preserved
loop-n-preserved c =
    let x = c.loop-n.rest.now in
    let some : 0 < length x = grind (arith, nat_tests) in
    elim c.match-read_first.branch [
      | in-Whole w ↦
          let n = w.in-Whole.count in
          let read = w.in-Whole.ensures.encodes in
          let less : length (take (length x - n) (drop n x)) < length x = omega (arith, cut_length n x, read.1, read.2) in
          rw (w.out-is, w.rest-is) (record {
            decodes = then_one c.args.out.now c.loop-n.out w.push_spare.new.self (Scalar w.in-Whole.c) c.args.bytes.now x (take (length x - n) (drop n x)) c.loop-n.invariant.decodes less
                (whole_first x n w.in-Whole.c w.in-Whole.ensures.front read.0 read.1 read.2) (whole_rest x n w.in-Whole.ensures.front read.1 read.2) w.push_spare.ensures.items w.push_spare.ensures.spare;
            less = omega (arith, less, c.loop-n.invariant.less);
          })
      | in-Neither w ↦
          let less : length (take (length x - 1) (drop 1 x)) < length x = omega (arith, cut_length 1 x, some) in
          rw (w.out-is, w.rest-is) (record {
            decodes = then_one c.args.out.now c.loop-n.out w.push_spare-in-Neither.new.self (Raw (slice_index x 0)) c.args.bytes.now x (take (length x - 1) (drop 1 x)) c.loop-n.invariant.decodes less
                (neither_first x some w.in-Neither.ensures.front) (neither_rest x some w.in-Neither.ensures.front) w.push_spare-in-Neither.ensures.items w.push_spare-in-Neither.ensures.spare;
            less = omega (arith, less, c.loop-n.invariant.less);
          })
    ]
