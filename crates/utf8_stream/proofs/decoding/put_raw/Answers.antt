use Rattle.std.proofs.Common.{arith}
use Rattle.utf8_stream.proofs.Tails.{tail_high}
use Rattle.utf8_stream.proofs.decoding.put_raw.Goals as goal

pub push_spare-requires-clause-character : goal.push_spare-requires-clause-character
push_spare-requires-clause-character c =
    let i = c.loop-byte.byte-index in
    (tail_high c.args.part.now i c.requires.part (omega arith), omega (arith, c.type_inv.part i))
