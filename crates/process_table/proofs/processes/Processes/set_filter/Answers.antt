use Rattle.std.proofs.Common.{◌<◌, length, ap, arith}
use Rattle.plain_machine.specs.Calls.{with_filter}
use Rattle.process_table.specs.Meaning.{filter_of}
use Rattle.process_table.proofs.Changing.{written, invariant_same}
use Rattle.process_table.proofs.Finding.{key}
use Rattle.process_table.proofs.processes.Processes.set_filter.Goals as goal

pub invariant_of-self : goal.invariant_of-self
invariant_of-self c =
    let within : c.args.p < length c.self.inside.list.items = omega (arith, ap length c.self.view_is) in
    invariant_same c.self.inside.list.items c.args.p c.index_mut.result.now c.set_filter.new.self c.self.invariant within c.index_mut.ensures.value (ap key c.set_filter.ensures)

pub returns-clause-table : goal.returns-clause-table
returns-clause-table c = written _ _ _ c.index_mut.result.now _ (with_filter (filter_of c.args.f)) c.self.view_is c.requires c.index_mut.ensures.value c.set_filter.ensures
