use Rattle.std.proofs.Common.{◌∙◌}
use Rattle.process_table.specs.Table.{with_table}
use Rattle.wait_loop.specs.Aims.{waiting_for}
use Rattle.wait_loop.proofs.EligibleLemmas.{first_of_any}
use Rattle.wait_loop.proofs.aims.Aim.first.Goals as goal

pub returns-in-None : goal.returns-in-None
returns-in-None c = c.first_of_all.ensures ∙ first_of_any (with_table c.args.table.now) (waiting_for c.args.self) c.in-None.is
