use Rattle.process_table.proofs.Resolution.{found_made}
use Rattle.process_table.proofs.processes.Processes.resolve.Goals as goal

pub returns-in-Str-clause-made : goal.returns-in-Str-clause-made
returns-in-Str-clause-made c = found_made _ _ _ _ c.named.ensures c.ok_or.ensures.value
