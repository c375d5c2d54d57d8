use Rattle.std.proofs.Common.{◌∙◌, sym, ap}
use Rattle.plain_machine.specs.Arguments.{runs}
use Rattle.kernel_state.specs.Meaning.{state_of}
use Rattle.kernel_state.proofs.Exchanges.{running_found, runs_not, past_runs}
use Rattle.kernel_state.proofs.hearing.is_running.Goals as goal

pub returns-in-Run : goal.returns-in-Run
returns-in-Run c = sym (running_found (state_of c.args.kernel.now) c.args.p c.get.result.now c.get.ensures ∙ ap runs (sym c.in-Run.ensures))

pub returns-in_default : goal.returns-in_default
returns-in_default c = sym (runs_not (state_of c.args.kernel.now) c.args.p c.get.result.now c.status.result c.get.ensures c.status.ensures c.in_default.not-Run)

pub returns-else-p-count : goal.returns-else-p-count
returns-else-p-count c = past_runs (state_of c.args.kernel.now) c.args.p c.count.result c.count.ensures.count c.if-p-count.false
