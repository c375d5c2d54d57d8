use Rattle.kernel_state.specs.Meaning.{state_of}
use Rattle.kernel_state.proofs.Answering.{enters_one, kill_taken}
use Rattle.kernel_state.proofs.told.take_kill.Goals as goal

pub unreachable-requires : goal.unreachable-requires
unreachable-requires c = enters_one c.args.p c.in_ok-entered.entered c.in_ok-entered.ensures.ok.entered c.in_default.ensures.entering

pub returns-clause-ok : goal.returns-clause-ok
returns-clause-ok c = kill_taken (state_of c.args.kernel.now) c.take_kill.new.table c.args.p c.in_ok-entered.entered c.in-Some.entry c.in-Some.ensures.entering c.in_ok-entered.ensures.ok
