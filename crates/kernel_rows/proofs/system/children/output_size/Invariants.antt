use Rattle.std.proofs.Common.{◌≡◌, ◌<◌, length}
use Rattle.kernel_rows.proofs.system.children.output_size.Given as goal

abbrev pub invariant-loop : goal.invariant-loop
invariant-loop g l = record {
  kills : (g.H.Host.state l.host).kills ≡ (g.H.Host.state l.initial.host).kills;
  there : l.child < length (g.H.Host.state l.host).kills;
}
