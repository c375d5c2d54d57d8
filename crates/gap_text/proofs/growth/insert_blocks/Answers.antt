use Rattle.std.proofs.Common.{◌≡◌, ◌++◌, length, take, drop, subst, sym, ap, ◌∙◌}
use Rattle.std.proofs.lemmas.List.{take_at}
use Rattle.gap_text.specs.Growth.{Grown, brought, put_at}
use Rattle.gap_text.proofs.Growing.{grown_turned, appended_then_brought}
use Rattle.gap_text.proofs.growth.insert_blocks.Goals as goal

pub returns-clause-grown : goal.returns-clause-grown
returns-clause-grown c =
    let n : length c.bring_last.new.blocks ≡ c.take_blocks.new.blocks.len = c.bring_last.auto.blocks ∙ c.deref_mut.ensures.len in
    let whole : take c.take_blocks.new.blocks.len (c.bring_last.new.blocks ++ drop (length c.bring_last.new.blocks) c.take_blocks.new.blocks.items) ≡ c.bring_last.new.blocks = take_at c.bring_last.new.blocks (drop (length c.bring_last.new.blocks) c.take_blocks.new.blocks.items) c.take_blocks.new.blocks.len n in
    let is : c.bring_last.new.blocks ≡ put_at c.args.at c.take_blocks.ensures.appended.added c.args.blocks.now.items =
    c.bring_last.ensures ∙ ap (λ blocks. brought c.args.at c.args.more blocks) c.deref_mut.ensures.value
    ∙ appended_then_brought c.args.blocks.now.items c.take_blocks.new.blocks.items c.args.at c.args.more c.take_blocks.ensures.appended in
    subst (λ blocks. Grown c.args.pool.now c.take_blocks.new.pool c.args.blocks.now.items blocks c.args.more) (sym (whole ∙ is))
    (grown_turned c.args.pool.now c.take_blocks.new.pool c.args.blocks.now.items c.take_blocks.new.blocks.items c.args.at c.args.more c.take_blocks.ensures.grown c.take_blocks.ensures.appended)
