use Rattle.std.proofs.Common.{◌≡◌, ◌∷◌, [], false}
use Rattle.process_rows.proofs.hosts.all_calls.Given as goal

abbrev pub invariant-loop-call : goal.invariant-loop-call
invariant-loop-call g l = (g.H.Host.state l.host).kills ≡ false ∷ []
