use Rattle.std.proofs.Common.{◌<◌, length, ap, arith}
use Rattle.process_table.specs.Table.{with_drained}
use Rattle.process_table.proofs.Changing.{written, invariant_same}
use Rattle.process_table.proofs.Finding.{key}
use Rattle.process_table.proofs.Reading.{drained_items, drained_spare}
use Rattle.process_table.proofs.processes.Processes.drain.Goals as goal

pub invariant_of-self : goal.invariant_of-self
invariant_of-self c =
    let within : c.args.p < length c.self.inside.list.items = omega (arith, ap length c.self.view_is) in
    invariant_same c.self.inside.list.items c.args.p c.index_mut.result.now c.drain.new.self c.self.invariant within c.index_mut.ensures.value (ap key c.drain.ensures.process)

pub returns-clause-items : goal.returns-clause-items
returns-clause-items c = drained_items _ _ _ c.index_mut.result.now c.self.view_is c.requires.made c.index_mut.ensures.value _ _ c.drain.ensures.items

pub returns-clause-spare : goal.returns-clause-spare
returns-clause-spare c = drained_spare _ _ _ c.index_mut.result.now c.self.view_is c.requires.made c.index_mut.ensures.value _ _ c.drain.ensures.spare

pub returns-clause-table : goal.returns-clause-table
returns-clause-table c = written _ _ _ c.index_mut.result.now _ with_drained c.self.view_is c.requires.made c.index_mut.ensures.value c.drain.ensures.process
