use Rattle.std.proofs.Common.{◌≡◌}
use Rattle.text_model.specs.Marks.{Overlay}
use Rattle.overlay_set.specs.Slots.{with_span, moved_by}
use Rattle.overlay_set.specs.Entries.{Holds, raised}
use Rattle.overlay_set.specs.Moves.{CanMoveEntry}
use Rattle.overlay_set.proofs.Parts.{full_bounds, all_both}
use Rattle.overlay_set.proofs.ChangeLemmas.{carried}
use Rattle.overlay_set.proofs.tree.Tree.carry.Goals as goal

pub returns-in-Full : goal.returns-in-Full
returns-in-Full c by is os =
    let all = full_bounds c.self.inside.root c.in-Full.node c.deref-node.result.now c.raised.result c.args.self.now c.in-Full.is c.self.invariant c.self.view_is c.deref-node.ensures c.raised.ensures in
    carried c.args.buffer c.args.change by os c.args.self.now
    (all_both (Holds c.raised.result) (CanMoveEntry c.args.buffer c.args.change) (λ e. (o : Overlay) → moved_by c.args.buffer c.args.change (with_span o e.stretch) ≡ with_span o (raised by e).stretch)
    (λ e held can o. c.carry.ensures by is e held can o) c.args.self.now all c.requires)
