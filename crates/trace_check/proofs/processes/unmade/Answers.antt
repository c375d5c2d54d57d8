use Rattle.trace_check.proofs.processes.unmade.Goals as goal

pub returns-clause-work : goal.returns-clause-work
returns-clause-work c = c.put_back.ensures
