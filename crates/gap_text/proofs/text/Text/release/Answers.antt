use Rattle.gap_text.proofs.Copying.{last_is_live, releases_on}
use Rattle.gap_text.proofs.text.Text.release.Goals as goal

pub give-requires : goal.give-requires
give-requires c =
    last_is_live c.args.self.blocks c.loop-block.blocks.items c.pop.new.self.items c.in-Some.block c.args.pool.now c.loop-block.pool c.in-Some.ensures.items c.loop-block.invariant

pub loop-block-preserved : goal.loop-block-preserved
loop-block-preserved c =
    releases_on c.args.self.blocks c.loop-block.blocks.items c.pop.new.self.items c.in-Some.block c.args.pool.now c.loop-block.pool c.give.new.self c.in-Some.ensures.items c.loop-block.invariant
    c.give.ensures.gone c.give.ensures.others c.give.ensures.spare c.give.ensures.count
