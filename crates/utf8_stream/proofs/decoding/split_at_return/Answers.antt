use Rattle.std.proofs.Common.{◌∙◌, ap, take, drop}
use Rattle.utf8_stream.proofs.Lines.{found_at}
use Rattle.utf8_stream.proofs.decoding.split_at_return.Goals as goal

pub returns : goal.returns
returns c =
    let bytes = c.args.bytes.now in
    found_at bytes c.memchr.result c.split_at.result.0.now c.split_at.result.1.now c.memchr.ensures
    (c.split_at.ensures.front ∙ ap (λ n. take n bytes) c.unwrap_or-place.ensures) (c.split_at.ensures.back ∙ ap (λ n. drop n bytes) c.unwrap_or-place.ensures)
