use Rattle.std.proofs.Common.{length, ap, arith}
use Rattle.buffer_core.specs.Meaning.{Stored}
use Rattle.buffer_core.proofs.buffer.Buffer.take_out.Goals as goal

pub delete-requires-clause-range : goal.delete-requires-clause-range
delete-requires-clause-range c =
    let same = ap (λ (b : Stored). length b.sets) c.set_point.ensures in
    let stored = c.bounds-bounds.ensures.stored in
    omega (arith, c.requires.high, same, stored.end)
