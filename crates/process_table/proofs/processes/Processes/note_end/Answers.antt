use Rattle.std.proofs.Common.{◌<◌, length, ap, arith}
use Rattle.process_table.specs.Meaning.{status_of}
use Rattle.process_table.specs.Table.{with_status}
use Rattle.process_table.proofs.Changing.{written, invariant_same}
use Rattle.process_table.proofs.Finding.{key}
use Rattle.process_table.proofs.processes.Processes.note_end.Goals as goal

pub invariant_of-self : goal.invariant_of-self
invariant_of-self c =
    let within : c.args.p < length c.self.inside.list.items = omega (arith, ap length c.self.view_is) in
    invariant_same c.self.inside.list.items c.args.p c.index_mut.result.now c.note_end.new.self c.self.invariant within c.index_mut.ensures.value (ap key c.note_end.ensures)

pub returns-clause-table : goal.returns-clause-table
returns-clause-table c = written _ _ _ c.index_mut.result.now _ (with_status (status_of c.args.s)) c.self.view_is c.requires c.index_mut.ensures.value c.note_end.ensures
