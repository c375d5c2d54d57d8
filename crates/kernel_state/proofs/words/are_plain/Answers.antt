use Rattle.std.specs.List.{list_all}
use Rattle.plain_machine.specs.Arguments.{is_plain}
use Rattle.ek_types.specs.Seen.{ch_of}
use Rattle.kernel_state.proofs.Coding.{plain_met, other_met}
use Rattle.kernel_state.proofs.words.are_plain.Goals as goal

pub returns-then-not-is_plain : goal.returns-then-not-is_plain
returns-then-not-is_plain c =
    let text = c.args.text.now in
    other_met text c.loop-i.i (ch_of c.ch.result) c.ch.ensures.item (list_all is_plain text) c.if-not-is_plain.ensures c.loop-i.invariant

pub loop-i-preserved : goal.loop-i-preserved
loop-i-preserved c =
    let text = c.args.text.now in
    plain_met text c.loop-i.i (ch_of c.ch.result) c.ch.ensures.item (list_all is_plain text) c.if-not-is_plain.ensures c.loop-i.invariant
