use Rattle.ek_types.specs.Listing.{items_of}
use Rattle.host_link.specs.Meaning.{answer_of}
use Rattle.host_link.proofs.Rests.{drop_at}
use Rattle.host_link.proofs.play.end_play.Goals as goal

pub returns-clause-told : goal.returns-clause-told
returns-clause-told c = rw (drop_at answer_of _ _ _ c.at.ensures) c.end_of-reply.ensures

pub returns-clause-rest : goal.returns-clause-rest
returns-clause-rest c = rw (drop_at answer_of (items_of c.args.play.now.ends) c.args.cursor.ends c.at.result.now c.at.ensures)
