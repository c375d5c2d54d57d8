use Rattle.ek_types.specs.Listing.{items_of}
use Rattle.line_session.proofs.MadeForms.{one_more_argument}
use Rattle.line_session.proofs.script.start.Goals as goal

pub loop-i-preserved : goal.loop-i-preserved
loop-i-preserved c = one_more_argument (items_of c.loop-i.args) (items_of c.push.new.self) (items_of c.args.command.now) c.loop-i.i c.at.result.now c.in_ok-copy.field-0 c.loop-i.invariant c.in_ok-push.ensures.ok c.at.ensures c.in_ok-copy.ensures
