use Rattle.std.proofs.Common.{IfOk, subst}
use Rattle.host_link.specs.Meaning.{exchanges_of}
use Rattle.ek_call.specs.Meaning.{script_of}
use Rattle.trace_check.specs.Verdicts.{IsVerdict}
use Rattle.trace_check.proofs.checking.check.Goals as goal

pub returns : goal.returns
returns g c =
    subst (λ p. IfOk c.run.result (IsVerdict p (script_of c.args.script.now) (exchanges_of c.args.journal.now) c.args.claimed.now)) c.in_ok-program.ensures c.run.ensures
