use Rattle.std.proofs.Common.{◌≡◌, ◌++◌, [], true, false, sym, ap, ◌∙◌, string_bytes}
use Rattle.text_model.specs.Characters as Characters
use Rattle.plain_machine.specs.Arguments.{encoded, is_plain}
use Rattle.ek_types.specs.Seen.{ch_of}
use Rattle.kernel_state.proofs.Coding.{plain_met, is_met, encoded_more}
use Rattle.kernel_state.proofs.words.word.Goals as goal

pub unreachable-requires : goal.unreachable-requires
unreachable-requires c =
    let raw : false ≡ true = ap (λ d. is_plain (ch_of d, [])) (sym c.in_default.is) ∙ is_met c.args.text.now c.loop-i.i (ch_of c.ch.result) c.ch.ensures.item c.loop-i.invariant.plain in
    cc

pub loop-i-preserved : goal.loop-i-preserved
loop-i-preserved c =
    let text = c.args.text.now in
    let met = is_met text c.loop-i.i (ch_of c.ch.result) c.ch.ensures.item c.loop-i.invariant.plain in
    record {
      bytes = encoded_more text c.loop-i.i (ch_of c.ch.result) c.ch.ensures.item (string_bytes c.loop-i.word) (string_bytes c.push.new.self) (encoded text)
          (c.in_ok-push.ensures.bytes ∙ ap (λ d. string_bytes c.loop-i.word ++ Characters.encoded (ch_of d)) (sym c.in-Scalar.is)) c.loop-i.invariant.bytes;
      plain = plain_met text c.loop-i.i (ch_of c.ch.result) c.ch.ensures.item true (sym met) c.loop-i.invariant.plain;
    }
