use Rattle.std.proofs.Common.{◌≡◌, All, take}
use Rattle.final_view.specs.Shown.{in_buffer}
use Rattle.final_view.specs.Marks.{IsMark, overlays_in}
use Rattle.final_view.proofs.mark.numbered.Given as goal

abbrev pub invariant-loop-k : goal.invariant-loop-k
invariant-loop-k l = record {
  exact : overlays_in l.overlays l.marks.items ≡ in_buffer l.buffer (take l.k l.overlays);
  are : All (IsMark l.overlays) l.marks.items;
}
