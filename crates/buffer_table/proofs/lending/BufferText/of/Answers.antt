use Rattle.std.proofs.Common.{subst, sym, ap}
use Rattle.gap_text.specs.Text.{LiesIn}
use Rattle.buffer_table.specs.Kept.{Named, live_of}
use Rattle.buffer_table.proofs.Reading.{readable}
use Rattle.buffer_table.proofs.lending.BufferText.of.Goals as goal

pub invariant_of-result : goal.invariant_of-result
invariant_of-result c =
    readable c.args.pool.now c.live.inside.buffer c.text.result.now c.len-size.result c.text.ensures
    (subst (λ (n : Named). LiesIn c.args.pool.now n.buffer.text) (sym c.live.view_is) c.requires)
    c.bounds-bounds.ensures.stored (c.len-size.ensures.characters c.args.pool.now) c.len-size.ensures.cells

pub returns : goal.returns
returns c = ap (live_of c.args.pool.now) c.live.view_is
