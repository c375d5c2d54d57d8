use Rattle.machine_laws.proofs.FaultLines.{one_fault_line}
use Rattle.machine_laws.proofs.fault_lines_are_determined.Goals as goal

pub returns : goal.returns
returns c = one_fault_line
