use Rattle.std.proofs.Common.{reverse, subst}
use Rattle.final_view.specs.Marks.{AreSorted, end_key}
use Rattle.final_view.proofs.Fitting.{edges_are}
use Rattle.final_view.proofs.edges.edges_of.Goals as goal

pub returns : goal.returns
returns c =
    edges_are c.args.overlays.now c.args.buffer c.in_ok-marks.marks.items c.in_ok-openers.openers.items c.in_ok-closers.closers.items c.in_ok-marks.ensures c.in_ok-openers.ensures
    (subst (λ l. AreSorted end_key (reverse l) c.in_ok-closers.closers.items) c.as_slice.ensures.value c.in_ok-closers.ensures)
