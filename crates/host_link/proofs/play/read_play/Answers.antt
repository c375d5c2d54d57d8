use Rattle.std.proofs.Common.{length, ap, ◌∙◌}
use Rattle.ek_types.specs.Listing.{items_of}
use Rattle.host_link.specs.Meaning.{answer_of}
use Rattle.host_link.specs.Cursors.{rest_of}
use Rattle.host_link.proofs.Rests.{drop_at, rest_after}
use Rattle.host_link.proofs.play.read_play.Goals as goal

pub returns-clause-told : goal.returns-clause-told
returns-clause-told c = rw (drop_at answer_of _ _ _ c.at.ensures) c.in_ok-turn.ensures.turn.told

pub returns-clause-rest : goal.returns-clause-rest
returns-clause-rest c =
    ap (rest_of c.args.play.now) c.moved.ensures ∙ rest_after c.args.play.now c.args.cursor (answer_of c.at.result.now) (length c.args.into.now) c.in_ok-turn.turn.given c.in_ok-turn.turn.used (drop_at answer_of (items_of c.args.play.now.reads) c.args.cursor.reads c.at.result.now c.at.ensures) c.in_ok-turn.ensures.left
