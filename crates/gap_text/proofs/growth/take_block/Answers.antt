use Rattle.std.proofs.Common.{subst, sym}
use Rattle.gap_text.specs.Growth.{Grown}
use Rattle.gap_text.proofs.Growing.{grows_by_one}
use Rattle.gap_text.proofs.growth.take_block.Goals as goal

pub returns-clause-grown : goal.returns-clause-grown
returns-clause-grown c =
    let e = c.in-Some.ensures in
    subst (λ items. Grown c.args.pool.now c.take.new.self c.args.blocks.now.items items 1) (sym c.push_reserved.ensures.items)
    (grows_by_one c.args.pool.now c.take.new.self c.args.blocks.now.items c.in-Some.block c.requires.live c.requires.distinct e.was_not_live e.is_live e.others e.spare e.count)
