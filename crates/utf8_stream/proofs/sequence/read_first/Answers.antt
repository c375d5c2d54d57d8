use Rattle.std.proofs.Common.{arith}
use Rattle.utf8_stream.proofs.Readings.{whole_read, part_read, neither_read}
use Rattle.utf8_stream.proofs.sequence.read_first.Goals.{else-count-bytes-via-then-count-bytes+then-bytes-ge194+else-bytes-le244, else-count-bytes-via-then-count-bytes+else-bytes-ge194, else-count-bytes-via-else-count-bytes}
use Rattle.utf8_stream.proofs.sequence.read_first.Goals as goal

pub returns-in-Some-default-clause-front : goal.returns-in-Some-default-clause-front
returns-in-Some-default-clause-front c =
    (whole_read c.args.bytes.now c.decode.result.0 c.decode.result.1 c.in-Some-default.c c.requires c.decode.ensures.char c.decode.ensures.size c.in-Some-default.is-0).0

pub returns-in-Some-default-clause-encodes : goal.returns-in-Some-default-clause-encodes
returns-in-Some-default-clause-encodes c =
    let r = whole_read c.args.bytes.now c.decode.result.0 c.decode.result.1 c.in-Some-default.c c.requires c.decode.ensures.char c.decode.ensures.size c.in-Some-default.is-0 in
    (r.1, r.2, r.3)

pub returns-then-bytes-le244-clause-front : goal.returns-then-bytes-le244-clause-front
returns-then-bytes-le244-clause-front c =
    part_read c.args.bytes.now c.decode.result.0 c.decode.result.1 c.requires c.decode.ensures.char c.decode.ensures.size c.in-None-default.is-0 (omega arith) (omega arith) (omega arith)

pub returns-else-count-bytes-clause-front : goal.returns-else-count-bytes-clause-front
returns-else-count-bytes-clause-front c =
    neither_read c.args.bytes.now c.decode.result.0 c.decode.result.1 c.requires c.decode.ensures.char c.decode.ensures.size c.in-None-default.is-0
    (λ i j k. elim c.else-count-bytes.branch [
      | else-count-bytes-via-then-count-bytes+then-bytes-ge194+else-bytes-le244 w ↦ omega arith
      | else-count-bytes-via-then-count-bytes+else-bytes-ge194 w ↦ omega arith
      | else-count-bytes-via-else-count-bytes w ↦ omega arith
    ])
