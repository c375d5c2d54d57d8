use Rattle.std.proofs.Common.{drop}
use Rattle.kernel_steps.specs.Ending.{CameSoFar, ComesOn, IsAtEnd}
use Rattle.kernel_steps.specs.Worlds.{Hosted}
use Rattle.kernel_steps.proofs.ending.finish.Given as goal

abbrev pub invariant-loop-p : goal.invariant-loop-p
invariant-loop-p g l = record {
  deals : ComesOn g.M.Kernel.state g.H.Host.state g.H.Host.made l.kernel l.initial.host l.host (g.K.Sink.state l.initial.sink) (g.K.Sink.state l.sink) (CameSoFar l.fn.so_far (g.P.Program.meant l.program)) (IsAtEnd l.state (g.P.Program.meant l.program) l.p);
  hosted : Hosted (drop l.p (g.M.Kernel.state l.kernel).processes) (g.H.Host.state l.host).kills;
}
