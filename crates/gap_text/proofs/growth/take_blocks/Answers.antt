use Rattle.std.proofs.Common.{◌∙◌}
use Rattle.gap_text.proofs.Growing.{grows_on, appends_on}
use Rattle.gap_text.proofs.growth.take_blocks.Goals as goal

pub taking-preserved : goal.taking-preserved
taking-preserved c =
    let i = c.taking.invariant in (
      grows_on c.args.pool.now c.taking.pool c.take_block.new.pool c.args.blocks.now.items c.taking.blocks.items c.take_block.new.blocks.items c.taking.counter i.0 c.take_block.ensures.grown,
      appends_on c.args.blocks.now.items c.taking.blocks.items c.take_block.new.blocks.items c.taking.counter i.1 c.take_block.ensures.appended,
      c.take_block.ensures.capacity ∙ i.2,
    )
