use Rattle.std.proofs.Common.{sym, ◌∙◌}
use Rattle.plain_machine.specs.Waits.{eligible}
use Rattle.process_table.specs.Table.{with_table}
use Rattle.wait_loop.specs.Aims.{waiting_for}
use Rattle.trace_check.proofs.Aheads.{round_none}
use Rattle.trace_check.proofs.waiting.list_round.Goals as goal

pub returns-in-None : goal.returns-in-None
returns-in-None c = c.in_ok-list.ensures.items ∙ round_none (eligible (with_table c.args.table.now) (waiting_for c.args.aim)) (sym c.in-None.is ∙ c.first.ensures)
