use Rattle.gap_text.proofs.Copying.{Releasing}
use Rattle.gap_text.proofs.text.Text.release.Given as goal

abbrev pub invariant-loop-block : goal.invariant-loop-block
invariant-loop-block l = Releasing l.fn.self.blocks l.blocks.items l.fn.pool l.pool

abbrev pub decreases-loop-block : goal.decreases-loop-block
decreases-loop-block l = goal.left-loop-block l
