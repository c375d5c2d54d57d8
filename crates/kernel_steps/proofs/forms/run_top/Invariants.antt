use Rattle.std.proofs.Common.{map, drop}
use Rattle.ek_types.specs.Listing.{items_of}
use Rattle.ek_call.specs.Meaning.{form_of, joined}
use Rattle.kernel_steps.specs.Work.{at_top}
use Rattle.kernel_steps.specs.Worlds.{world, Keeps}
use Rattle.kernel_steps.proofs.Works.{Went}
use Rattle.kernel_steps.proofs.forms.run_top.Given as goal

abbrev pub invariant-loop-i : goal.invariant-loop-i
invariant-loop-i g l = record {
  went : (start : g.row.H.Denot) → Went (g.P.Program.meant l.program) (world g.M.Kernel.state g.H.Host.state g.H.Host.made start l.initial.kernel l.initial.host (g.K.Sink.state l.initial.sink)) (world g.M.Kernel.state g.H.Host.state g.H.Host.made start l.kernel l.host (g.K.Sink.state l.sink))
      (at_top (joined (map form_of (items_of l.forms)))) (at_top (joined (drop l.i (map form_of (items_of l.forms)))));
  keeps : (start : g.row.H.Denot) → Keeps (world g.M.Kernel.state g.H.Host.state g.H.Host.made start l.initial.kernel l.initial.host (g.K.Sink.state l.initial.sink)) (world g.M.Kernel.state g.H.Host.state g.H.Host.made start l.kernel l.host (g.K.Sink.state l.sink));
}
