use Rattle.std.proofs.Common.{◌≡◌, length, ap, arith}
use Rattle.std.proofs.lemmas.List.{length-take}
use Rattle.text_model.specs.Characters as Characters
use Rattle.plain_machine.specs.Arguments.{encoded}
use Rattle.ek_types.specs.Seen.{ch_of}
use Rattle.kernel_state.proofs.Coding.{counted_more}
use Rattle.kernel_state.proofs.words.encoded_length.Goals as goal

pub loop-i-preserved : goal.loop-i-preserved
loop-i-preserved c =
    let text = c.args.text.now in
    let long = c.encode.array_long in
    let size : c.encode.result ≡ length (Characters.encoded (ch_of c.ch.result)) = grind (arith, length-take, ap length c.encode.ensures.bytes) in
    record {
      count = counted_more text c.loop-i.i (ch_of c.ch.result) c.ch.ensures.item c.loop-i.length c.encode.result (length (encoded text)) size c.loop-i.invariant.count;
      few = omega arith;
    }
