use Rattle.std.proofs.Common.{sym, ◌∙◌}
use Rattle.buffer_core.proofs.UndoLemmas.{no_change_more}
use Rattle.buffer_core.proofs.undoing.next_change.Goals as goal

pub loop-i-preserved : goal.loop-i-preserved
loop-i-preserved c = no_change_more c.args.from c.loop-i.i c.args.records.now.state.entries _ c.loop-i.invariant c.at.ensures (sym c.is_change.ensures ∙ c.if-is_change.false)
