use Rattle.utf8_stream.proofs.Blocks.{ascii_decodes}
use Rattle.utf8_stream.proofs.decoding.put_ascii.Goals as goal

pub returns : goal.returns
returns c =
    let count = c.count_ascii-count in
    ascii_decodes c.args.out.now c.extend_bytes_spare.new.self count.result c.args.bytes.now c.requires count.ensures.range count.ensures.ascii c.extend_bytes_spare.ensures.items c.extend_bytes_spare.ensures.spare
