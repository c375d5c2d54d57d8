use Rattle.line_session.proofs.Strings.{whole_decoded}
use Rattle.line_session.proofs.command.decoded.Goals as goal

pub returns : goal.returns
returns c =
    whole_decoded _ _ _ _ _ _ c.args.word.now _ c.new-text.ensures c.new-decoder.ensures c.in_ok-reserve.ensures.items c.feed.ensures.items c.feed.ensures.held c.in_ok-reserve-2.ensures.items c.finish.ensures.items
