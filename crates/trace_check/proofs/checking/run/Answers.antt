use Rattle.ek_call.specs.Meaning.{script_of}
use Rattle.trace_check.proofs.checking.run.Goals as goal

pub returns : goal.returns
returns g c = c.compare-verdict.ensures (script_of c.args.script.now) (rw c.new-machine.ensures c.in_ok-work.ensures)
