use Rattle.std.proofs.Common.{◌≡◌, vec_capacity}
use Rattle.gap_text.specs.Growth.{Grown, Appended}
use Rattle.gap_text.proofs.growth.take_blocks.Given as goal

abbrev pub invariant-taking : goal.invariant-taking
invariant-taking l =
    Grown l.fn.pool l.pool l.fn.blocks.items l.blocks.items l.counter
    × Appended l.fn.blocks.items l.blocks.items l.counter
    × (vec_capacity l.blocks ≡ vec_capacity l.fn.blocks)
