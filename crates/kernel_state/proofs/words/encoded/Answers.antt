use Rattle.std.proofs.Common.{◌++◌, ap, ◌∙◌}
use Rattle.plain_machine.specs.Arguments.{encoded}
use Rattle.ek_types.specs.Seen.{ch_of}
use Rattle.kernel_state.proofs.Coding.{encoded_more}
use Rattle.kernel_state.proofs.words.encoded.Goals as goal

pub loop-i-preserved : goal.loop-i-preserved
loop-i-preserved c =
    let text = c.args.text.now in
    encoded_more text c.loop-i.i (ch_of c.ch.result) c.ch.ensures.item c.loop-i.bytes.items c.extend_from_slice.new.self.items (encoded text)
    (c.in_ok-extend_from_slice.ensures.items ∙ ap (λ s. c.loop-i.bytes.items ++ s) c.encode-size.ensures.bytes) c.loop-i.invariant
