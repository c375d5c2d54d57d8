use Rattle.std.proofs.Common.{map, ap, ◌∙◌}
use Rattle.ek_types.proofs.Listed.{seen_one_more}
use Rattle.ek_types.proofs.list.ListOfCopied.copy.Goals as goal

pub loop-i-preserved : goal.loop-i-preserved
loop-i-preserved g c =
    ap (map g.T.Copied.seen) c.in_ok-push.ensures.ok ∙ seen_one_more g.T.Copied.seen _ _ _ _ _ c.at.ensures c.in_ok-copy.ensures c.loop-i.invariant
